-- `way_of` meets its contract: each arm is the case of `of_way` that its number is.
use borrow.Author.Tests.{lt-ltb}
use native.Mathlib.Omega.{arith}
use Rattle.abi.specs.Settings.{of_way}
use Rattle.abi.proofs.way.way_of.Goals as goal

pub returns-in-0 : goal.returns-in-0
unfolding of_way
returns-in-0 c = rw c.in-0.is

pub returns-in-1 : goal.returns-in-1
unfolding of_way
returns-in-1 c = rw c.in-1.is

pub returns-in_default : goal.returns-in_default
unfolding of_way
returns-in_default c = rw (lt-ltb 1 c.args.number (omega arith))
