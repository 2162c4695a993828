-- The round trips of both ends' records: what was put into one comes out of it. And the standing that a step tells by number
-- settles as it is.
use mathlib.Core.Bool.{false}
use mathlib.Core.List.{List}
use mathlib.Core.Path.{◌≡◌, refl}
use Prim.Native.Nat.{ℕ, zero, suc, ◌≤◌}
use native.Mathlib.Omega.{arith}
use borrow.Author.Tests.{ltb-false}
use lib.Dec.{ltb}
use Rattle.line.specs.Answer.{done}
use Rattle.central.specs.declared.state.Control.{Control}
use Rattle.central.specs.declared.state.Stage.{Stage}
use Rattle.central.specs.declared.state.Stage.TheVariants.{Idle, Logon, Block, Closed}
use Rattle.device.specs.Settling.{settled_numbers}
use Rattle.device.specs.declared.settling.Standing.{Standing}
use Rattle.device.specs.declared.settling.Standing.TheVariants.{Open, Confirmed, InDoubt}
use Rattle.device.specs.declared.state.Step.{Step}
use Rattle.abi.specs.Centrals as Centrals
use Rattle.abi.specs.Devices as Devices
use Rattle.abi.specs.Settling.{settled_as, standing_number}
use Rattle.abi.specs.declared.centrals.CentralState.{CentralState}

-- the stage of its number
pub stage-back : (stage : Stage) → Centrals.stage_of (Centrals.stage_number stage) ≡ stage
stage-back Idle = refl
stage-back Logon = refl
stage-back Block = refl
stage-back Closed = refl

-- the number of its stage
number-back : (n : ℕ) → n ≤ 3 → Centrals.stage_number (Centrals.stage_of n) ≡ n
number-back zero h = refl
number-back (suc zero) h = refl
number-back (suc (suc zero)) h = refl
number-back (suc (suc (suc zero))) h = refl
number-back (suc (suc (suc (suc n)))) h = absurd (omega arith)

-- the central's control out of its record
pub central-back : (k : Control) → Centrals.control_of (Centrals.record_of k) ≡ k
central-back k = rw (stage-back k.stage) refl

-- and the record of the control that it is
pub record_back : (s : CentralState) → ltb 3 s.stage ≡ false → Centrals.record_of (Centrals.control_of s) ≡ s
record_back s h = rw (number-back s.stage (ltb-false 3 s.stage h)) refl

-- the device's step out of its record
pub device-back : (step : Step) → Devices.step_of (Devices.record_of step) ≡ step
device-back (Step.Opening p) = refl
device-back (Step.Logon p) = refl
device-back (Step.Sending p) = refl
device-back (Step.Closing p) = refl
device-back Step.Stopped = refl

-- the number of a standing settles a verdict buffer by that standing, and is never refused
pub standing-back : (standing : Standing) (verdicts : List ℕ) → settled_as (standing_number standing) verdicts ≡ done (settled_numbers standing verdicts)
unfolding settled_as
standing-back Open verdicts = refl
standing-back Confirmed verdicts = refl
standing-back InDoubt verdicts = refl
