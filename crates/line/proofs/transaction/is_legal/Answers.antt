-- `is_legal` meets its contract: what ends in CR has a character, so length, end and characters are all the test.
use mathlib.Core.Path.{sym}
use Rattle.line.proofs.TransactionLaws.{legal-short}
use Rattle.line.proofs.transaction.is_legal.Goals as goal

pub returns : goal.returns
returns c = rw (c.ends_in_cr.ensures, c.are.ensures) (sym (legal-short _ c.if-info-gt-MOST_INFORMATION.false))
