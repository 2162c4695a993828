-- `tyntolai_central_step` meets its contract: a record with no stage is refused, else the state that it and the lent memory are steps.
use Rattle.abi.specs.Centrals.{central_stepped}
use Rattle.abi.proofs.AnswerLaws.{numbered, unnumbered}
use Rattle.abi.proofs.CallerLaws.{central-refused, central-steps}
use Rattle.abi.proofs.centrals.tyntolai_central_step.Goals as goal

pub returns-in-Ok : goal.returns-in-Ok
unfolding central_stepped
returns-in-Ok c =
    let (stage, is) = numbered _ 9 _ _ c.in-Ok.ensures in
    rw stage (central-steps _ stage (rw (is, c.from.ensures) at c.step.ensures) c.from-in-Ok.ensures)

pub returns-in-Err : goal.returns-in-Err
unfolding central_stepped
returns-in-Err c =
    let (out, nine) = unnumbered _ 9 _ _ c.in-Err.ensures in
    rw (out, ← nine) (central-refused _ _ _ c.refuse.ensures)
