-- `is_summed` meets its contract: the check characters are compared one by one.
use mathlib.Core.Path.{sym}
use Rattle.block.proofs.FrameLaws.{summing-three}
use Rattle.block.proofs.frame.is_summed.Goals as goal

pub returns : goal.returns
returns c = sym (summing-three _ _ c.requires c.check_characters-check.ensures)
