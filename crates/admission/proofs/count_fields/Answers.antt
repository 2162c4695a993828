use Rattle.admission.proofs.ContentLaws.{count-more, count_same, count-ended}
use native.Mathlib.Omega.{arith}
use Rattle.admission.proofs.count_fields.Goals as goal
use Rattle.admission.proofs.count_fields.Goals.{then-c-eq-CR, else-c-eq-CR}

pub loop-c-preserved : goal.loop-c-preserved
loop-c-preserved c =
    let b = c.args.info.now in
    let l = c.loop-c in
    let i = c.loop-c-test.true in
    elim c.if-c-eq-CR.branch [
      | then-c-eq-CR w ↦ (omega arith, omega arith, rw w.n-is (count-more b l.c-index l.n l.invariant.2 w.if-c-eq-CR.true i))
      | else-c-eq-CR w ↦ (omega arith, omega arith, rw w.n-is (count_same b l.c-index l.n l.invariant.2 w.if-c-eq-CR.false i))
    ]

pub returns : goal.returns
returns c =
    let l = c.loop-c in
    count-ended _ l.c-index l.n l.invariant.2 c.loop-c-test.false
