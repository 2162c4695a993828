-- `test` meets its contract: each refusal is the case of `tested` that the tests before it leave, and then the journal decides.
use mathlib.Core.Path.{sym, ap, ◌∙◌}
use lib.ListN.{length}
use Rattle.line.specs.Answer.{map_done}
use Rattle.central.proofs.StepLaws.{tested-range, tested-short, tested-journal}
use Rattle.central.proofs.lent.test.Goals as goal

pub returns-then-not-in_range : goal.returns-then-not-in_range
returns-then-not-in_range c = sym (ap (map_done length) (tested-range _ _ _ _ _ (sym c.in_range.ensures ∙ c.if-not-in_range.true)))

pub returns-then-room-lt-ANSWER : goal.returns-then-room-lt-ANSWER
returns-then-room-lt-ANSWER c = sym (ap (map_done length) (tested-short _ _ _ _ _ (sym c.in_range.ensures ∙ c.if-not-in_range.false) c.if-room-lt-ANSWER.true))

pub returns : goal.returns
returns c = c.check_in.ensures ∙ sym (ap (map_done length) (tested-journal _ _ _ _ _ (sym c.in_range.ensures ∙ c.if-not-in_range.false) c.if-room-lt-ANSWER.false))
