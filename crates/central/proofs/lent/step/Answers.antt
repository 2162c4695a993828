-- `step` meets its contract: memory of another size is refused, a refusal of the tests stands, and where they pass the central reacts and answers.
use mathlib.Core.Path.{refl, sym, ap, ◌∙◌}
use Rattle.line.proofs.OutcomeLaws.{map-refused}
use Rattle.line.specs.Answer.{outcome_of}
use Rattle.central.proofs.RangeLaws.{ready}
use Rattle.central.proofs.StepLaws.{tested-passes, stepped-refused, stepped-done, stepped-sized, stepped-other, steps-refused, steps-done}
use Rattle.central.proofs.lent.step.Goals as goal

pub returns-then-pending-ne-MOST_INFORMATION : goal.returns-then-pending-ne-MOST_INFORMATION
returns-then-pending-ne-MOST_INFORMATION c =
    let a = c.args in
    let other = stepped-other a.control a.settings a.pagers.now a.pending.now a.journal.now a.string.now _ c.if-pending-ne-MOST_INFORMATION.true in
    rw c.refuse.ensures (steps-refused 9 _ _ a.journal.now a.out.now other refl)

pub returns-in-Err : goal.returns-in-Err
returns-in-Err c =
    let a = c.args in
    let no = map-refused _ _ _ (sym c.test.ensures ∙ ap outcome_of c.in-Err.is) in
    let same = stepped-sized a.control a.settings a.pagers.now a.pending.now a.journal.now a.string.now _ c.if-pending-ne-MOST_INFORMATION.false in
    rw c.refuse-in-Err.ensures (steps-refused _ _ _ a.journal.now a.out.now (same ∙ stepped-refused _ a.settings a.pagers.now a.journal.now a.string.now _ _ no) refl)

pub react-reacted-requires : goal.react-reacted-requires
react-reacted-requires c =
    let passes = tested-passes _ _ _ _ _ _ (sym c.test.ensures ∙ ap outcome_of c.in_default.is) in
    let a = c.args in
    ready a.settings a.pagers.now _ a.pending.now a.journal.now c.if-pending-ne-MOST_INFORMATION.false passes.range passes.journal

pub put_answer-requires : goal.put_answer-requires
put_answer-requires c =
    let passes = tested-passes _ _ _ _ _ _ (sym c.test.ensures ∙ ap outcome_of c.in_default.is) in
    passes.roomy

pub returns : goal.returns
returns c =
    let passes = tested-passes _ _ _ _ _ _ (sym c.test.ensures ∙ ap outcome_of c.in_default.is) in
    let a = c.args in
    let same = stepped-sized a.control a.settings a.pagers.now a.pending.now a.journal.now a.string.now _ c.if-pending-ne-MOST_INFORMATION.false in
    steps-done (same ∙ stepped-done _ a.settings a.pagers.now a.pending.now a.journal.now a.string.now _ passes.tests) c.react-reacted.ensures c.put_answer.ensures
