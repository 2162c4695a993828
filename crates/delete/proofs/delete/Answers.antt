-- `delete` meets its contract: it is that beside lent memory, with the state's own array.

use Rattle.delete.proofs.delete.Goals as goal

pub returns : goal.returns
returns c =
    let a = c.args in
    rw c.join.ensures (rw c.control_of.ensures at c.delete-moved.ensures a.state.pending)
