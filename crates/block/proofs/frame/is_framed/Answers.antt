-- `is_framed` meets its contract: where the ending is one, its tests are those of `framed`.
use mathlib.Core.Bool.{and-true}
use Rattle.block.specs.Block.{framed}
use Rattle.block.proofs.frame.is_framed.Goals as goal

pub returns : goal.returns
unfolding framed
returns c = rw (c.requires.1, and-true, c.has_check.ensures)
