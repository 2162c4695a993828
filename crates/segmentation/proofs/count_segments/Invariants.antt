-- `count_segments` meets its contract: the blocks that are counted and those of what is left are all.
use mathlib.Core.Path.{◌≡◌}
use Prim.Native.Nat.{◌+◌, ◌-◌, ◌≤◌}
use lib.ListN.{length, drop}
use Rattle.segmentation.specs.Segmentation.{segmentation_by}
use Rattle.segmentation.proofs.count_segments.Given as goal

abbrev pub invariant-loop-from : goal.invariant-loop-from
invariant-loop-from l = (l.from ≤ length l.info) × (l.count ≤ l.from) × (length (segmentation_by l.way l.info) ≡ l.count + length (segmentation_by l.way (drop l.from l.info)))

abbrev pub decreases-loop-from : goal.decreases-loop-from
decreases-loop-from l = length l.info - l.from
