-- `hang_up` meets its contract: the size of the memory decides, then the test.
use mathlib.Core.Path.{◌≡◌, sym, ◌∙◌}
use borrow.Author.Tests.{eq-eqb, ne_eqb}
use Rattle.line.specs.Answer.{refused}
use Rattle.central.specs.Lent.{dropped_in}
use Rattle.central.specs.Step.{dropped}
use Rattle.central.proofs.lent.hang_up.Goals as goal
use Rattle.central.proofs.lent.hang_up.Goals.{then-pending-ne-MOST_INFORMATION-via-then-pending-ne-MOST_INFORMATION, then-pending-ne-MOST_INFORMATION-via-else-pending-ne-MOST_INFORMATION+then-not-is_kept}

pub returns-then-pending-ne-MOST_INFORMATION : goal.returns-then-pending-ne-MOST_INFORMATION
unfolding dropped_in dropped
returns-then-pending-ne-MOST_INFORMATION c =
    let no : dropped_in c.args.control c.args.pending.now c.args.settings ≡ refused 9 =
    elim c.then-pending-ne-MOST_INFORMATION.branch [
      | then-pending-ne-MOST_INFORMATION-via-then-pending-ne-MOST_INFORMATION w ↦ rw (ne_eqb _ 2000 w.if-pending-ne-MOST_INFORMATION.true)
      | then-pending-ne-MOST_INFORMATION-via-else-pending-ne-MOST_INFORMATION+then-not-is_kept w ↦
          rw (eq-eqb _ 2000 w.if-pending-ne-MOST_INFORMATION.false, sym w.is_kept.ensures ∙ w.if-not-is_kept.true)
    ] in
    rw c.refuse.ensures (record { answers = rw no; state = rw no })

pub returns : goal.returns
unfolding dropped_in dropped
returns c =
    let sized = eq-eqb _ 2000 c.if-pending-ne-MOST_INFORMATION.false in
    let yes = sym c.is_kept.ensures ∙ c.if-not-is_kept.false in
    record { answers = rw (sized, yes); state = rw (sized, yes, c.start.ensures) }
