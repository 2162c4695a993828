-- `delete_chosen` meets its contract: the state has the length that was answered, or is left.
use Rattle.central.specs.Lent.{state_of}
use Rattle.delete.specs.Inner.{deleted_chosen}
use Rattle.delete.proofs.DeletionLaws.{behind-over}
use Rattle.delete.proofs.lent.delete_chosen.Goals as goal

pub returns : goal.returns
returns c array =
    let wrote = c.test_and_remove-outcome.ensures array in
    let a = c.args in
    let o = deleted_chosen a.choice (state_of a.control array) a.journal.now in
    rw c.over.ensures (record { wrote = wrote; state = behind-over a.control c.test_and_remove-outcome.result array o wrote.answers })
