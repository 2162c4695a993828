use mathlib.Core.Path.{◌≡◌, ap, ◌∙◌}
use Prim.Native.Nat.{◌+◌, ◌≤◌}
use native.Mathlib.Omega.{arith}
use lib.ListN.{length, drop, length-drop}
use Rattle.segmentation.specs.Segmentation.{segmentation_by}
use Rattle.segmentation.proofs.SegmentationByLaws.{by_none, turn_inside, turn_next}
use borrow.Author.Rules.{rules}
use Rattle.segmentation.proofs.count_segments.Goals as goal
use Rattle.segmentation.proofs.count_segments.Goals.{After-next_length-from}

-- a turn counts one segment, the first of those that are left
turn : (c : After-next_length-from) →
    let l = c.loop-from in
    let a = c.args in
    let n = c.next_length-from.result in
    (1 ≤ n) × (l.from + n ≤ length a.info.now) ×
    (length (segmentation_by a.way (drop l.from a.info.now)) ≡ 1 + length (segmentation_by a.way (drop (l.from + n) a.info.now)))
turn c =
    let l = c.loop-from in
    let a = c.args in
    let (some, whole) = turn_next a.way a.info.now l.from _ l.invariant.0 c.next_length-from.ensures (search rules) in
    (some, turn_inside a.way a.info.now l.from _ l.invariant.0 c.next_length-from.ensures, ap length whole ∙ omega arith)

pub loop-from-smaller : goal.loop-from-smaller
loop-from-smaller c =
    let (some, fits, _) = turn (goal.at.loop-from-smaller c).After-next_length-from in
    omega (arith, some, fits)

pub loop-from-preserved : goal.loop-from-preserved
loop-from-preserved c =
    let l = c.loop-from in
    let (some, fits, whole) = turn (goal.at.loop-from-preserved c).After-next_length-from in
    (fits, omega arith, omega (arith, l.invariant.2))

pub returns : goal.returns
returns c =
    let l = c.loop-from in
    let a = c.args in
    omega (arith, l.invariant.2, by_none a.way (drop l.from a.info.now) (omega (arith, length-drop l.from a.info.now)))
