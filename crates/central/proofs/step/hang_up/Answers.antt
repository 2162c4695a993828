-- `hang_up` meets its contract: it is that over lent memory, of the array's size.
use Rattle.std.proofs.Common.{◌≡◌, length, rules}
use borrow.Author.Tests.{eq-eqb}
use Rattle.central.specs.Lent.{dropped_in}
use Rattle.central.proofs.step.hang_up.Goals as goal

pub returns : goal.returns
unfolding dropped_in
returns c =
    let size : length c.args.state.pending ≡ 2000 = search rules in
    rw c.join.ensures (rw (c.control_of.ensures, eq-eqb _ 2000 size) at c.hang_up-moved.ensures)
