-- `put_answer` meets its contract: without a number nothing is put out; else its digits, a space and CR LF are copied.
use mathlib.Core.Path.{refl, sym, ◌∙◌}
use borrow.Author.Tests.{le-ltb}
use lib.ListN.{length}
use Rattle.line.proofs.OverlayLaws.{overlay-none}
use Rattle.line.specs.Answer.{copied}
use Rattle.snpp.proofs.answer.put_answer.Goals as goal

pub returns-in_default : goal.returns-in_default
returns-in_default c = rw (sym c.number.ensures ∙ c.in_default.is) (record { answers = refl; leaves = overlay-none c.args.out.now })

pub returns : goal.returns
unfolding copied
returns c = rw (sym c.number.ensures ∙ c.in-Some.is) (rw (le-ltb (length c.args.out.now) 6 c.requires) at c.copy.ensures)
