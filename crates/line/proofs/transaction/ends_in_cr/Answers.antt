-- `ends_in_cr` meets its contract: the library's test of the end is that of the last character.
use mathlib.Core.Path.{◌∙◌}
use Rattle.line.proofs.TransactionLaws.{ends_with-cr}
use Rattle.line.proofs.transaction.ends_in_cr.Goals as goal

pub returns : goal.returns
returns c = c.ends_with.ensures.value ∙ ends_with-cr c.args.text.now
