use mathlib.Core.Path.{◌≡◌, sym, ap, ◌∙◌}
use Prim.Native.Nat.{◌<◌, min}
use native.Mathlib.Omega.{arith}
use lib.ListN.{length, drop, length-drop}
use lib.Seq.{drop-drop}
use Rattle.line.proofs.ListLaws.{rest_all}
use Rattle.segmentation.specs.Segmentation.{complete, fields_within}
use Rattle.segmentation.proofs.WholeFieldsLaws.{within-short, within_turn}
use Rattle.segmentation.proofs.way.fields_fit.Goals as goal
use Rattle.segmentation.proofs.way.fields_fit.Goals.{After-complete_fields-n}

-- more than 250 characters are left, and what is counted of them is complete
turn : (c : After-complete_fields-n) →
    let left = drop c.loop-from.from c.args.info.now in
    (250 < length left) × (c.complete_fields-n.result ≡ min (length left) (complete 250 left))
turn c =
    let l = c.loop-from in
    let t = c.args.info.now in
    (omega (arith, length-drop l.from t), rw (rest_all l.from t) at c.complete_fields-n.ensures)

pub returns-then-n-eq0 : goal.returns-then-n-eq0
returns-then-n-eq0 c =
    let (far, counts) = turn (goal.at.returns-then-n-eq0 c).After-complete_fields-n in
    sym (c.loop-from.invariant.1 ∙ (within_turn _ _ far counts).0 c.if-n-eq0.true)

pub loop-from-preserved : goal.loop-from-preserved
loop-from-preserved c =
    let l = c.loop-from in
    let t = c.args.info.now in
    let (far, counts) = turn (goal.at.loop-from-preserved c).After-complete_fields-n in
    let rest = length-drop l.from t in
    (omega (arith, counts), l.invariant.1 ∙ (within_turn _ _ far counts).1 c.if-n-eq0.false ∙ ap (fields_within 250) (drop-drop _ l.from t))

pub returns : goal.returns
returns c =
    let l = c.loop-from in
    let t = c.args.info.now in
    sym (l.invariant.1 ∙ within-short 250 (drop l.from t) (omega arith) (omega (arith, length-drop l.from t)))
