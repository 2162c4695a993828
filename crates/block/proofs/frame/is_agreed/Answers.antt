-- `is_agreed` meets its contract: each arm computes the rule of its ending.
use Rattle.block.specs.Block.{agrees}
use Rattle.block.proofs.frame.is_agreed.Goals as goal

pub returns-in-Etx : goal.returns-in-Etx
unfolding agrees
returns-in-Etx c = rw c.in-Etx.is c.ends_in_cr-ended.ensures

pub returns-in-Etb : goal.returns-in-Etb
unfolding agrees
returns-in-Etb c = rw c.in-Etb.is c.ends_in_cr-ended.ensures

pub returns-in-Us : goal.returns-in-Us
unfolding agrees
returns-in-Us c = rw (c.in-Us.is, c.ends_in_cr-ended.ensures)
