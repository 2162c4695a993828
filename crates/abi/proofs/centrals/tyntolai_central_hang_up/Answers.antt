-- `tyntolai_central_hang_up` meets its contract: a record with no stage is refused, else the state that it and the lent memory are drops the line.
use Rattle.abi.specs.Centrals.{central_dropped}
use Rattle.abi.proofs.AnswerLaws.{numbered, unnumbered}
use Rattle.abi.proofs.CallerLaws.{central-drops}
use Rattle.abi.proofs.centrals.tyntolai_central_hang_up.Goals as goal

pub returns-in-Ok : goal.returns-in-Ok
unfolding central_dropped
returns-in-Ok c =
    let (stage, is) = numbered _ 9 _ _ c.in-Ok.ensures in
    rw stage (central-drops _ _ _ stage (rw (is, c.from.ensures) at c.hang_up.ensures) c.from-in-Ok.ensures)

pub returns-in-Err : goal.returns-in-Err
unfolding central_dropped
returns-in-Err c =
    let (out, nine) = unnumbered _ 9 _ _ c.in-Err.ensures in
    rw (out, ← nine) c.refuse.ensures
