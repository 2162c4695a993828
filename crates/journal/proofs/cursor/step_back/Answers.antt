-- `step_back` meets its contract: the tests are those of `step_from`, and a record that is left is looked for before the end.
use Rattle.line.proofs.OutcomeLaws.{handed-refusal}
use mathlib.Core.Path.{sym, ap, ◌∙◌}
use Rattle.std.specs.Prelude.{Some}
use Rattle.line.specs.Answer.{map_done}
use Rattle.journal.proofs.StepLaws.{found-some}
use borrow.Author.Tests.{le-ltb, ne_eqb}
use Rattle.journal.specs.Walk.{step_from}
use Rattle.journal.proofs.cursor.step_back.Goals as goal

pub returns-in_err-place : goal.returns-in_err-place
unfolding step_from
returns-in_err-place c =
    handed-refusal _ _ c.from_residual.ensures.1
    ∙ sym (rw (le-ltb _ _ c.if-journal-end.false, ne_eqb _ 0 c.if-left-eq0.false) (found-some _ _ ∙ ap (map_done (λ q. Some q)) (sym c.in_err-place.ensures)))

pub returns : goal.returns
unfolding step_from
returns c = sym (rw (le-ltb _ _ c.if-journal-end.false, ne_eqb _ 0 c.if-left-eq0.false) (found-some _ _ ∙ ap (map_done (λ q. Some q)) (sym c.in_ok-place.ensures)))
