use Rattle.line.proofs.OutcomeLaws.{handed-refusal}
use mathlib.Core.Path.{sym, ap, ◌∙◌}
use Rattle.line.specs.Answer.{done}
use Rattle.journal.proofs.CursorLaws.{step-place}
use Rattle.journal.proofs.SurveyLaws.{noted-none, noted-found, noted-next, noted-all, noted-refused}
use native.Mathlib.Omega.{arith}
use Rattle.journal.proofs.record.survey_from.Goals as goal

pub loop-place-init : goal.loop-place-init
loop-place-init c = noted-none _ _ _ c.requires

pub loop-place-smaller-then-at-index : goal.loop-place-smaller-then-at-index
loop-place-smaller-then-at-index c =
    let s = step-place _ _ _ (sym c.in_ok-place.ensures ∙ ap (λ p. done p) c.in-Some.is) in
    omega arith

pub loop-place-preserved-then-at-index : goal.loop-place-preserved-then-at-index
loop-place-preserved-then-at-index c =
    noted-found _ _ _ _ _ _ _ c.loop-place.invariant _ (sym c.in_ok-place.ensures ∙ ap (λ p. done p) c.in-Some.is) c.if-at-index.true

pub loop-place-smaller : goal.loop-place-smaller
loop-place-smaller c =
    let s = step-place _ _ _ (sym c.in_ok-place.ensures ∙ ap (λ p. done p) c.in-Some.is) in
    omega arith

pub loop-place-preserved : goal.loop-place-preserved
loop-place-preserved c =
    noted-next _ _ _ _ _ _ _ c.loop-place.invariant _ (sym c.in_ok-place.ensures ∙ ap (λ p. done p) c.in-Some.is) c.if-at-index.false

pub returns-in_err-place : goal.returns-in_err-place
returns-in_err-place c = handed-refusal _ _ c.from_residual.ensures.1 ∙ noted-refused _ _ _ _ _ _ _ c.loop-place.invariant _ (sym c.in_err-place.ensures)

pub returns : goal.returns
returns c = noted-all _ _ _ _ _ _ _ c.loop-place.invariant (sym c.in_ok-place.ensures ∙ ap (λ p. done p) c.in_default.is)
