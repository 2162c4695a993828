use Rattle.std.specs.Prelude.{Some}
use mathlib.Core.Path.{◌≡◌, sym, ap, ◌∙◌}
use Prim.Native.Nat.{◌+◌, ◌-◌}
use native.Mathlib.Omega.{arith}
use Rattle.line.specs.Answer.{done, outcome_of}
use Rattle.journal.specs.Cursor.{transaction_at, walk_from}
use Rattle.journal.specs.Walk.{step_from}
use Rattle.journal.proofs.CursorLaws.{step-place}
use Rattle.segmentation.specs.Segmentation.{cuttable}
use Rattle.device.proofs.CutLaws.{cuts_start, cuts_met, cuts_end, cuts_refused}
use Rattle.device.proofs.job.cuts_from.Goals as goal

pub overflow_add-end : goal.overflow_add-end
overflow_add-end c =
    let lies = step-place c.args.job.now c.loop-place.at c.in-Ok-Some.place (sym c.step_back.ensures ∙ ap outcome_of c.in-Ok-Some.is ∙ ap (λ p. done p) c.in-Ok-Some.field-0-is) in
    omega arith

pub slice_bounds-is_cuttable-end : goal.slice_bounds-is_cuttable-end
slice_bounds-is_cuttable-end c =
    let lies = step-place c.args.job.now c.loop-place.at c.in-Ok-Some.place (sym c.step_back.ensures ∙ ap outcome_of c.in-Ok-Some.is ∙ ap (λ p. done p) c.in-Ok-Some.field-0-is) in
    omega arith

pub loop-place-smaller : goal.loop-place-smaller
loop-place-smaller c =
    let lies = step-place c.args.job.now c.loop-place.at c.in-Ok-Some.place (sym c.step_back.ensures ∙ ap outcome_of c.in-Ok-Some.is ∙ ap (λ p. done p) c.in-Ok-Some.field-0-is) in
    omega arith

pub loop-place-preserved : goal.loop-place-preserved
loop-place-preserved c =
    let a = c.args in
    let l = c.loop-place in
    let q = c.in-Ok-Some.place in
    let met : step_from a.job.now l.at ≡ done (Some q) = sym c.step_back.ensures ∙ ap outcome_of c.in-Ok-Some.is ∙ ap (λ p. done p) c.in-Ok-Some.field-0-is in
    let s = step-place a.job.now l.at q met in
    let part : q.start + q.length - q.start ≡ q.length = omega arith in
    let cut : c.is_cuttable-every.result ≡ cuttable a.way (transaction_at a.job.now q) = rw part at c.is_cuttable-every.ensures in
    (omega (arith, s.inside, s.back, s.next), l.invariant.1 ∙ cuts_met a.way a.job.now l.at l.every l.invariant.0 q met ∙ rw (← cut))

pub returns-in-Ok-None : goal.returns-in-Ok-None
returns-in-Ok-None c =
    let l = c.loop-place in
    let a = c.args in
    sym (sym (cuts_start a.way (walk_from a.job.now a.position)) ∙ l.invariant.1 ∙ cuts_end a.way a.job.now l.at l.every l.invariant.0 (sym c.step_back.ensures ∙ ap outcome_of c.in-Ok-None.is ∙ ap (λ p. done p) c.in-Ok-None.field-0-is))

pub returns-in-Err : goal.returns-in-Err
returns-in-Err c =
    let l = c.loop-place in
    let a = c.args in
    sym (sym (cuts_start a.way (walk_from a.job.now a.position)) ∙ l.invariant.1 ∙ cuts_refused a.way a.job.now l.at l.every l.invariant.0 _ (sym c.step_back.ensures ∙ ap outcome_of c.in-Err.is))
