-- `tyntolai_delete` meets its contract: a record with no stage is refused, else the records of the state that it is are deleted.
use mathlib.Core.List.{[]}
use Rattle.abi.specs.Deletions.{deleted_at}
use Rattle.abi.proofs.AnswerLaws.{numbered, unnumbered}
use Rattle.abi.proofs.CallerLaws.{central-keeps, central_deletes}
use Rattle.abi.proofs.deletions.tyntolai_delete.Goals as goal

pub returns-in-Ok : goal.returns-in-Ok
unfolding deleted_at
returns-in-Ok c =
    let (stage, is) = numbered _ 9 _ _ c.in-Ok.ensures in
    rw stage (central_deletes _ stage (rw is at (c.delete.ensures [])) c.from.ensures)

pub returns-in-Err : goal.returns-in-Err
unfolding deleted_at
returns-in-Err c =
    let (out, nine) = unnumbered _ 9 _ _ c.in-Err.ensures in
    rw (out, ← nine) (central-keeps _ c.refuse.ensures)
