-- `block_count` meets its contract: filled blocks are counted by the length, others cut by cut.
use Rattle.segmentation.proofs.SegmentationByLaws.{by_filled}
use Rattle.segmentation.proofs.SegmentationLaws.{segmentation-count}
use Rattle.segmentation.proofs.block_count.Goals as goal

pub returns-in-Filled : goal.returns-in-Filled
returns-in-Filled c = rw (c.in-Filled.is, by_filled, segmentation-count) c.filled_count.ensures
