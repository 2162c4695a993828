-- `room_for` meets its contract: filled, the blocks are counted by the length.
use Rattle.segmentation.proofs.SegmentationLaws.{segmentation-count}
use Rattle.segmentation.proofs.room_for.Goals as goal

pub returns-in-Filled : goal.returns-in-Filled
returns-in-Filled c = rw (c.in-Filled.is, segmentation-count, ← c.filled_count.ensures)
