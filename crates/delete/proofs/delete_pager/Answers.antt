-- `delete_pager` meets its contract: it is that beside lent memory, with the state's own array.

use Rattle.delete.proofs.delete_pager.Goals as goal

pub returns : goal.returns
returns c =
    let a = c.args in
    rw c.join.ensures (rw c.control_of.ensures at c.delete_pager-moved.ensures a.state.pending)
