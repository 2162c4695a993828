-- The device's state as a record of numbers, and what its steps owe a C caller.
use Rattle.std.specs.Prelude.{List, ◌≡◌, ℕ, ◌+◌, eqb, ltb, length, Option, Some, None, if◌then◌else◌}
use Rattle.line.specs.Answer.{Outcome, done, refused, map_done, output, overlay}
use Rattle.reply.specs.declared.remarks.Remarks.{Remarks}
use Rattle.device.specs.Reaction.{place, verdict_number}
use Rattle.device.specs.Step as Device
use Rattle.device.specs.declared.settling.Standing.{Standing}
use Rattle.device.specs.declared.state.Given.{Given}
use Rattle.device.specs.declared.state.Place.{Place}
use Rattle.device.specs.declared.state.Report.{Report}
use Rattle.device.specs.declared.state.Report.TheVariants as Reporting
use Rattle.device.specs.declared.state.Step.{Step}
use Rattle.device.specs.declared.state.Step.TheVariants.{Opening, Logon, Sending, Closing, Stopped}
use Rattle.device.specs.declared.state.Stepped.{Stepped}
use Rattle.abi.specs.Answer.{answer_of}
use Rattle.abi.specs.Remarks.{remarks_as}
use Rattle.abi.specs.Replies.{reply_number}
use Rattle.abi.specs.Settings.{device_settings_of, of_settings}
use Rattle.abi.specs.Settling.{standing_number}
use Rattle.abi.specs.declared.devices.DeviceSettings.{DeviceSettings}
use Rattle.abi.specs.declared.devices.DeviceState.{DeviceState}
use Rattle.abi.specs.declared.devices.DeviceStepped.{DeviceStepped}

-- ── The record of a state ──

-- the number of a step and its particulars
abbrev pub filled : ℕ → Place → DeviceState
filled n p = record { step = n; transaction = p.transaction; block = p.block; attempts = p.attempts }

-- the record of a device that has stopped
abbrev pub stopped : DeviceState
stopped = record { step = 0; transaction = 0; block = 0; attempts = 0 }

-- the record of a step (R-13.1)
abbrev pub record_of : Step → DeviceState
record_of (Opening p) = filled 1 p
record_of (Logon p) = filled 2 p
record_of (Sending p) = filled 3 p
record_of (Closing p) = filled 4 p
record_of Stopped = stopped

-- the particulars in a record
abbrev pub place_in : DeviceState → Place
place_in s = place s.transaction s.block s.attempts

-- the step that a record is (R-13.1)
abbrev pub step_of : DeviceState → Step
step_of s =
    if eqb s.step 1 then Opening (place_in s)
    else if eqb s.step 2 then Logon (place_in s)
    else if eqb s.step 3 then Sending (place_in s)
    else if eqb s.step 4 then Closing (place_in s)
    else Stopped

-- ── What a step gives, by number ──

-- the verdict that is given: 0 where there is none
abbrev pub verdict_in : Option Given → ℕ
verdict_in (Some g) = verdict_number g.verdict
verdict_in None = 0

-- the transaction that it is given to
abbrev pub transaction_in : Option Given → ℕ
transaction_in (Some g) = g.transaction
transaction_in None = 0

-- the reply to the close: 0 where a step reports none; silence is a reply that is not recognized, so 1
abbrev pub report_number : Report → ℕ
report_number (Reporting.Close r) = 1 + reply_number r
report_number Reporting.Nothing = 0

-- ── Steps ──

-- a step of the state that a record is: 9 where it has no step, or the settings no way or no confirmation
unfoldable pub device_stepped : DeviceState → DeviceSettings → List ℕ → List ℕ → ℕ → Outcome Device.Sent
device_stepped s settings job reply room =
    if ltb 4 s.step then refused 9
    else of_settings settings (Device.stepped (record { step = step_of s }) (device_settings_of settings) job reply room)

-- a refusal by number, which leaves the record and gives nothing
abbrev pub refusing : DeviceState → ℕ → DeviceStepped
refusing s n =
    record { answer = answer_of (refused n); state = s; verdict = 0; transaction = 0; report = 0; standing = 0; remarks = remarks_as None }

-- a count, a move, how the accepted verdicts stand, and the remarks
abbrev pub giving : ℕ → Step → Option Given → Report → Standing → Option Remarks → DeviceStepped
giving n step given report standing remarks =
    record {
      answer = answer_of (done n);
      state = record_of step;
      verdict = verdict_in given;
      transaction = transaction_in given;
      report = report_number report;
      standing = standing_number standing;
      remarks = remarks_as remarks;
    }

-- what is answered of a step: a refusal leaves the record
abbrev pub packed : DeviceState → Outcome ℕ → Stepped → DeviceStepped
packed s (done n) t = giving n t.state.step t.given t.report t.standing t.remarks
packed s (refused n) t = refusing s n

-- the same of what a step comes to, with the remarks in its reply
abbrev pub device_answer : DeviceState → Option Remarks → Outcome Device.Sent → DeviceStepped
device_answer s remarks (done x) =
    giving (length x.string) x.move.next x.move.given x.move.report (Device.standing_of (step_of s) (done x)) remarks
device_answer s remarks (refused n) = refusing s n

-- what a step owes a C caller: the numbers and the record, and the output
pub record DeviceSteps
    (o : Outcome Device.Sent) (s : DeviceState) (remarks : Option Remarks) (r : DeviceStepped) (out out' : List ℕ) : Type 0 where
  pub answers : r ≡ device_answer s remarks o
  pub leaves : out' ≡ overlay (output (map_done (λ x. x.string) o)) out
