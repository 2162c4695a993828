-- `tyntolai_device_step` meets its contract: a record with no step and settings with a number that is none are refused, else the step that it is goes on.
use Rattle.abi.specs.Devices.{device_stepped}
use Rattle.abi.specs.Settings.{of_settings}
use Rattle.abi.proofs.AnswerLaws.{numbered, unnumbered}
use Rattle.abi.proofs.CallerLaws.{device-refused, device-steps}
use Rattle.abi.proofs.devices.tyntolai_device_step.Goals as goal

pub returns-in_default : goal.returns-in_default
unfolding device_stepped
returns-in_default c =
    let (out, _) = unnumbered _ 9 _ _ c.in_default.ensures in
    rw out (device-refused _ c.refuse.ensures)

pub returns-in-Err : goal.returns-in-Err
unfolding device_stepped of_settings
returns-in-Err c =
    let (stands, _) = numbered _ 9 _ _ c.in-Ok.ensures in
    let (out, nine) = unnumbered _ 9 _ _ c.in-Err.ensures in
    rw (stands, out, ← nine) (device-refused _ c.refuse-in-Err.ensures)

pub returns-in-Ok-try_from : goal.returns-in-Ok-try_from
unfolding device_stepped of_settings
returns-in-Ok-try_from c =
    let (stands, is) = numbered _ 9 _ _ c.in-Ok.ensures in
    let (whole, settings) = numbered _ 9 _ _ c.in-Ok-try_from.ensures in
    rw (stands, whole) (device-steps _ (rw (is, settings) at c.step.ensures) c.pack.ensures)
