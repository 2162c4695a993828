-- `exchange` meets its contract: what arrives of the string is heard, what arrives of the answer is read, and neither step is refused, so that both make the exchange.
use mathlib.Core.Path.{◌∙◌}
use borrow.Author.Rules.{rules}
use Rattle.line.proofs.AllLaws.{all-bytes}
use Rattle.call.proofs.ExchangeLaws.{exchanged}
use Rattle.call.proofs.exchange.exchange.Goals as goal

pub returns : goal.returns
returns c =
    λ u.
    let counted = c.count.ensures in
    let noted = c.note.ensures u.ends.verdicts u.stands.numbers in
    let bytes = all-bytes c.args.journal.now (search rules) in
    exchanged u c.args.fault (rw (c.from.ensures _) at c.hear-reacted.ensures) (search rules) _ counted (rw (c.from-2.ensures _) at c.read-moved.ensures) (c.memory-1.given.1 ∙ u.stands.wide) _ c.count-2.ensures noted c.pending-1.given c.memory-2-1.given bytes
