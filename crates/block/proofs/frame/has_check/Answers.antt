-- `has_check` meets its contract: its three tests are those of the three characters.
use mathlib.Core.Bool.{and-true}
use Rattle.line.specs.Test.{all}
use Rattle.block.proofs.FrameLaws.{check-three}
use Rattle.block.proofs.frame.has_check.Goals as goal

pub returns : goal.returns
unfolding all
returns c = rw (check-three c.args.s.now c.requires, and-true, c.is_check.ensures, c.is_check-2.ensures, c.is_check-3.ensures)
