-- `tyntolai_run` meets its contract: device settings with a number that is none are refused, else it is the run, and its answer in numbers.
use Rattle.abi.specs.Settings.{of_settings}
use Rattle.abi.proofs.AnswerLaws.{numbered, unnumbered}
use Rattle.abi.proofs.CallerLaws.{run-refused, runs}
use Rattle.abi.proofs.run.tyntolai_run.Goals as goal

pub returns-in-Ok : goal.returns-in-Ok
unfolding of_settings
returns-in-Ok c =
    let (whole, is) = numbered _ 9 _ _ c.in-Ok.ensures in
    rw whole (runs (rw (is, c.from.ensures) at c.run.ensures) c.from-in-Ok.ensures)

pub returns-in-Err : goal.returns-in-Err
unfolding of_settings
returns-in-Err c =
    let (out, nine) = unnumbered _ 9 _ _ c.in-Err.ensures in
    rw (out, ← nine) (run-refused _ _ c.from-in-Err.ensures)
