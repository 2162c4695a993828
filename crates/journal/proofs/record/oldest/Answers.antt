-- `oldest` meets its contract: where the survey finds the record its part is handed back, and of a journal that is refused nothing.
use mathlib.Core.Path.{◌≡◌, sym, ap, ◌∙◌}
use native.Mathlib.Nat.{add_comm}
use native.Mathlib.Omega.{arith}
use Prim.Native.Nat.{◌+◌, ◌-◌}
use Rattle.line.specs.Answer.{outcome_of}
use Rattle.journal.proofs.ReadLaws.{survey_lies, survey_hands}
use Rattle.journal.proofs.record.oldest.Goals as goal

pub overflow_add-end : goal.overflow_add-end
overflow_add-end c =
    let l = survey_lies _ _ _ (sym c.survey.ensures ∙ ap outcome_of c.in-Ok.is) in
    omega arith

pub slice_bounds-result-end-2 : goal.slice_bounds-result-end-2
slice_bounds-result-end-2 c =
    let l = survey_lies _ _ _ (sym c.survey.ensures ∙ ap outcome_of c.in-Ok.is) in
    omega arith

pub returns : goal.returns
returns c =
    let journal = c.args.journal in
    let e = c.in-Ok.found.here in
    let part : e.start + e.length - e.start ≡ e.length = omega arith in
    rw part (survey_hands _ _ _ (sym c.survey.ensures ∙ ap outcome_of c.in-Ok.is) (ap (λ n. (journal.ref_ptr.0, n)) (add_comm e.start journal.ref_ptr.1)))
