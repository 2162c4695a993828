-- `tyntolai_device_start` meets its contract: settings with a number that is none are refused, else the device starts, and its answer is given in numbers.
use Rattle.abi.specs.Settings.{of_settings}
use Rattle.abi.proofs.AnswerLaws.{numbered, unnumbered}
use Rattle.abi.proofs.CallerLaws.{device-refused, device-steps}
use Rattle.abi.proofs.devices.tyntolai_device_start.Goals as goal

pub returns-in-Ok : goal.returns-in-Ok
unfolding of_settings
returns-in-Ok c =
    let (whole, is) = numbered _ 9 _ _ c.in-Ok.ensures in
    rw whole (device-steps _ (rw is at c.start.ensures) (rw c.from-stopped.ensures at c.pack.ensures))

pub returns-in-Err : goal.returns-in-Err
unfolding of_settings
returns-in-Err c =
    let (out, nine) = unnumbered _ 9 _ _ c.in-Err.ensures in
    rw (out, ← nine) (device-refused _ (rw c.from-stopped.ensures at c.refuse.ensures))
