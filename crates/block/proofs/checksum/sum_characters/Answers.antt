-- `sum_characters` meets its contract: each character carries its four bits of the sum modulo 4,096.
use Rattle.block.specs.Checksum.{check_characters}
use Rattle.block.proofs.checksum.sum_characters.Goals as goal

pub returns : goal.returns
unfolding check_characters
returns c = rw (c.carry-3.ensures, c.carry-2.ensures, c.carry.ensures)
