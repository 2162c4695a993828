-- What a run owes a C caller.
use Rattle.std.specs.Prelude.{List, ◌≡◌, ℕ}
use Rattle.line.specs.Answer.{Outcome, done, refused, map_done, output, overlay}
use Rattle.journal.specs.Storage.{stored_in}
use Rattle.demand.specs.Demand.{Fair, Demand3}
use Rattle.demand.specs.Final.{Finals}
use Rattle.call.specs.Call.{Setup, Played, setup, result_of, totals_of, numbers_of}
use Rattle.call.specs.declared.run.Totals.{Totals}
use Rattle.abi.specs.Settings.{central_settings_of, device_settings_of}
use Rattle.abi.specs.declared.centrals.CentralSettings.{CentralSettings}
use Rattle.abi.specs.declared.devices.DeviceSettings.{DeviceSettings}
use Rattle.abi.specs.declared.run.RunTotals.{RunTotals}

-- what stays as it is throughout a call
abbrev pub setup_of : DeviceSettings → CentralSettings → List ℕ → List ℕ → Setup
setup_of device central pagers job = setup (device_settings_of device) (central_settings_of central) pagers job

-- the totals and the number of what a run comes to
abbrev pub totals_in : Outcome Totals → RunTotals
totals_in (done t) = record { transmissions = t.transmissions; journal = t.journal; code = 0 }
totals_in (refused n) = record { transmissions = 0; journal = 0; code = n }

-- what a run owes a C caller
pub record CallRuns (o : Outcome Played) (r : RunTotals) (buffer buffer' verdicts verdicts' : List ℕ) : Type 0 where
  -- the totals and the number
  pub answers : r ≡ totals_in (map_done totals_of o)
  -- the journal in its buffer; a refusal leaves it
  pub stored : buffer' ≡ stored_in (map_done (λ p. (result_of p).journal) o) buffer
  -- the verdicts in theirs; a refusal leaves it
  pub judged : verdicts' ≡ overlay (output (map_done numbers_of o)) verdicts
  -- where the run is played, its damage is fair
  pub fair : (p : Played) → o ≡ done p → Fair p.inputs p.damages
  -- and the whole of demand 3 holds of its inputs
  pub demand : (p : Played) → o ≡ done p → Demand3 p.inputs
  -- and what is claimed of final verdicts
  pub finals : (p : Played) → o ≡ done p → Finals p.inputs
