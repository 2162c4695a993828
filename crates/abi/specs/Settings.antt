-- Settings as C lays them out, and the way of cutting and the confirmation as C numbers them.
use Rattle.std.specs.Prelude.{Bool, not, ◌&&◌, ℕ, eqb, leb, ltb, if◌then◌else◌}
use Rattle.line.specs.Answer.{Outcome, refused}
use Rattle.line.specs.declared.password.Password as Line
use Rattle.central.specs.declared.state.Settings as Central
use Rattle.device.specs.declared.state.Confirmation.{Confirmation}
use Rattle.device.specs.declared.state.Confirmation.TheVariants.{Early, Late}
use Rattle.device.specs.declared.state.Settings as Device
use Rattle.segmentation.specs.declared.way.Way.{Way}
use Rattle.segmentation.specs.declared.way.Way.TheVariants.{Filled, WholeFields}
use Rattle.abi.specs.declared.centrals.CentralSettings.{CentralSettings}
use Rattle.abi.specs.declared.devices.DeviceSettings.{DeviceSettings}
use Rattle.abi.specs.declared.password.Password.{Password}

-- the password that a record is
abbrev pub password_of : Password → Line.Password
password_of p = record { characters = p.characters; length = p.length }

-- the central's settings that a record is
abbrev pub central_settings_of : CentralSettings → Central.Settings
central_settings_of s = record { password = password_of s.password; longest = s.longest; retries = s.retries }

-- the way of a number that is one (R-13.1)
abbrev pub way_of : ℕ → Way
way_of n = if eqb n 0 then Filled else WholeFields

-- what is done in the way of a number: 9 where it is none (R-13.1)
unfoldable pub of_way : {A : Type 0} → ℕ → Outcome A → Outcome A
of_way n whole = if ltb 1 n then refused 9 else whole

-- the confirmation of a number that is one (R-13.1)
abbrev pub confirmation_of : ℕ → Confirmation
confirmation_of n = if eqb n 0 then Early else Late

-- the way's number names a way, and the confirmation's a confirmation (R-13.1)
abbrev pub has_numbers : DeviceSettings → Bool
has_numbers s = leb s.way 1 && leb s.confirmation 1

-- what is done with a record of the device's settings: 9 where the number of its way or of its confirmation is none (R-13.1)
unfoldable pub of_settings : {A : Type 0} → DeviceSettings → Outcome A → Outcome A
of_settings s whole = if not (has_numbers s) then refused 9 else whole

-- the device's settings that a record is
abbrev pub device_settings_of : DeviceSettings → Device.Settings
device_settings_of s =
    record {
      password = password_of s.password;
      retries = s.retries;
      way = way_of s.way;
      confirmation = confirmation_of s.confirmation;
    }
