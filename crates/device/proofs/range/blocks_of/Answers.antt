-- `blocks_of` meets its contract: the blocks are counted in the settings' way.
use Rattle.device.specs.Reaction.{segments_of}
use Rattle.device.proofs.range.blocks_of.Goals as goal

pub returns : goal.returns
unfolding segments_of
returns c = c.block_count.ensures
