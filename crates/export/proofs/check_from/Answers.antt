use Rattle.line.proofs.OutcomeLaws.{handed-refusal}
use mathlib.Core.Path.{◌≡◌, sym, ap, ◌∙◌}
use Rattle.std.specs.Prelude.{Some, if◌then◌else◌}
use Prim.Native.Nat.{◌+◌, ◌-◌}
use native.Mathlib.Omega.{arith}
use lib.ListN.{length}
use Rattle.line.specs.Answer.{done, refused, map_done}
use Rattle.journal.specs.Cursor.{transaction_at}
use Rattle.journal.specs.Walk.{step_from}
use Rattle.journal.proofs.CursorLaws.{step-place}
use Rattle.admission.specs.Content.{is_page}
use Rattle.export.specs.Export.{pages_from}
use Rattle.export.proofs.ExportLaws.{looked_more, looked_all, looked_refused}
use Rattle.export.proofs.check_from.Goals as goal
use Rattle.export.proofs.check_from.Goals.{In-Some, In_default}

-- the step that met a record
met : (c : In-Some) → step_from c.args.journal.now c.loop-place.at ≡ done (Some c.in-Some.place)
met c = sym c.in_ok-place.ensures ∙ ap (λ p. done p) c.in-Some.is

-- what is answered where no record is left
ended : (c : In_default) →
    let s = c.args in
    (if c.loop-place.every then done s.position.left else refused 6) ≡ map_done length (pages_from s.journal.now s.position)
ended c = looked_all _ _ _ _ c.loop-place.invariant (sym c.in_ok-place.ensures ∙ ap (λ p. done p) c.in_default.is)

pub overflow_add-end : goal.overflow_add-end
overflow_add-end c = omega (arith, step-place _ _ _ (met (goal.at.overflow_add-end c).In-Some))

pub slice_bounds-is_page-end : goal.slice_bounds-is_page-end
slice_bounds-is_page-end c = omega (arith, step-place _ _ _ (met (goal.at.slice_bounds-is_page-end c).In-Some))

pub loop-place-smaller : goal.loop-place-smaller
loop-place-smaller c = omega (arith, step-place _ _ _ (met (goal.at.loop-place-smaller c).In-Some))

pub loop-place-preserved : goal.loop-place-preserved
loop-place-preserved c =
    let q = c.in-Some.place in
    let span : q.start + q.length - q.start ≡ q.length = omega arith in
    let page : c.is_page-every.result ≡ is_page (transaction_at c.args.journal.now q) = rw span at c.is_page-every.ensures in
    rw page (looked_more _ _ _ _ c.loop-place.invariant q (met (goal.at.loop-place-preserved c).In-Some))

pub returns-then-every : goal.returns-then-every
returns-then-every c = rw c.if-every.true at (ended (goal.at.returns-then-every c).In_default)

pub returns-else-every : goal.returns-else-every
returns-else-every c = rw c.if-every.false at (ended (goal.at.returns-else-every c).In_default)

pub returns-in_err-place : goal.returns-in_err-place
returns-in_err-place c = handed-refusal _ _ c.from_residual.ensures.1 ∙ looked_refused _ _ _ _ c.loop-place.invariant _ (sym c.in_err-place.ensures)
