use mathlib.Core.Path.{refl}
use Rattle.segmentation.specs.Segmentation.{behind}
use Rattle.segmentation.proofs.SegmentationByLaws.{turn_inside, turn_behind}
use borrow.Author.Rules.{rules}
use Rattle.segmentation.proofs.segment_start.Goals as goal

pub loop-init : goal.loop-init
unfolding behind
loop-init c = (search rules, refl)

pub loop-preserved : goal.loop-preserved
loop-preserved c =
    let l = c.loop in
    let a = c.args in
    let takes = c.next_length-from.ensures in
    (turn_inside a.way a.info.now l.from _ l.invariant.0 takes, turn_behind a.way a.info.now l.from _ l.invariant.0 takes l.counter l.invariant.1)
