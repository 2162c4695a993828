-- `put_segments` meets its contract: the blocks that are laid and those of what is left are all; the next is right, and fits behind the others.
use mathlib.Core.List.{List, ◌++◌}
use mathlib.Core.Path.{◌≡◌}
use Prim.Native.Nat.{◌-◌, ◌≤◌}
use lib.ListN.{length, drop}
use Rattle.line.specs.Answer.{Laid}
use Rattle.block.specs.Block.{Segment}
use Rattle.block.specs.Segments.{blocks_of}
use Rattle.segmentation.specs.Segmentation.{segmentation_by}
use Rattle.segmentation.proofs.put_segments.Given as goal

abbrev pub invariant-loop-from : goal.invariant-loop-from
invariant-loop-from l = (l.from ≤ length l.info) × (length l.out ≡ length l.initial.out)
    × ((before : List Segment) × (segmentation_by l.way l.info ≡ before ++ segmentation_by l.way (drop l.from l.info)) × Laid (blocks_of before) l.at l.initial.out l.out)

abbrev pub decreases-loop-from : goal.decreases-loop-from
decreases-loop-from l = length l.info - l.from
