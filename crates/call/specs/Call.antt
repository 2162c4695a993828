-- What a call of `run` comes to: the refusals in document 01's order, and the run at the faults read as damage.
use Rattle.std.specs.Prelude.{Bool, not, ◌&&◌, List, map, ◌≡◌, ℕ, Result, ltb, eqb, length, if◌then◌else◌}
use Rattle.line.specs.Answer.{Outcome, done, refused, outcome_of, map_done, and_then, output, overlay}
use Rattle.line.specs.declared.answer.Refusal.{Refusal}
use Rattle.line.specs.Test.{all}
use Rattle.journal.specs.Storage.{decode_in, is_buffer, size_of, stored_in}
use Rattle.journal.specs.Walk.{decode}
use Rattle.central.specs.Step as CentralStep
use Rattle.central.specs.declared.state.Settings as CentralSettings
use Rattle.device.specs.Reaction.{verdict_number}
use Rattle.device.specs.Step as DeviceStep
use Rattle.device.specs.declared.state.Settings as DeviceSettings
use Rattle.demand.specs.Demand.{Fair, Demand3}
use Rattle.demand.specs.Faults.{faulted}
use Rattle.demand.specs.Final.{Finals, final_verdicts}
use Rattle.demand.specs.Run.{Inputs, Damages, Outcome as RunOutcome, run}
use Rattle.call.specs.declared.run.Totals.{Totals}

-- ── What a call takes ──

-- a list of transactions: a job, or the journal that a run is over
abbrev pub Transactions : Type 0
Transactions = List (List ℕ)

-- what stays as it is throughout a call: both ends' settings, the pager list and the job's bytes (R-10.9)
pub record Setup : Type 0 where
  pub device : DeviceSettings.Settings
  pub central : CentralSettings.Settings
  pub pagers : List ℕ
  pub job : List ℕ

-- a setup, part by part
abbrev pub setup : DeviceSettings.Settings → CentralSettings.Settings → List ℕ → List ℕ → Setup
setup device central pagers job = record { device = device; central = central; pagers = pagers; job = job }

-- the inputs of a run: a setup, whose job has these transactions, and the starting journal (R-10.9)
abbrev pub inputs_of : Setup → Transactions → Transactions → Inputs Transactions
inputs_of s job journal =
    record { job = job; device = s.device; rules = CentralStep.rules_of s.central s.pagers; journal = journal }

-- ── The tests ──

-- both ends' settings and the pager list are in range (R-10.9)
abbrev pub ends_in_range : DeviceSettings.Settings → CentralSettings.Settings → List ℕ → Bool
ends_in_range device central pagers =
    DeviceStep.settings_in_range device && CentralStep.settings_in_range central && CentralStep.pagers_in_range pagers

-- a fault is 0 to 8 (R-10.6)
abbrev pub fault : ℕ → Bool
fault f = ltb f 9

-- the tests of a call, in their order, and the inputs of the run where they pass:
-- 9 where settings, pager list or a fault are out of range, 1 where the journal's buffer has the wrong size,
-- 7 where job or journal are not well formed, 2 where a field of the job is too long for the device's way (R-10.9)
unfoldable pub tested : Setup → List ℕ → ℕ → List ℕ → Outcome (Inputs Transactions)
tested s buffer n faults =
    if not (ends_in_range s.device s.central s.pagers && all fault faults) then refused 9
    else if not (is_buffer buffer) then refused 1
    else and_then (decode s.job) (λ ts. and_then (decode_in buffer n) (λ rs.
    if not (DeviceStep.cuts_all s.device.way ts) then refused 2 else done (inputs_of s ts rs)))

-- ── The run ──

-- a run that is played: its inputs, and the damage on the line
pub record Played : Type 0 where
  pub inputs : Inputs Transactions
  pub damages : Damages

-- the run of the inputs at the faults read as damage
abbrev pub played : List ℕ → Inputs Transactions → Played
played faults i = record { inputs = i; damages = faulted i faults }

-- a call: once the tests are passed, 1 where the verdict buffer has not one byte for each transaction; else the run (R-10.9)
unfoldable pub called : Setup → List ℕ → ℕ → List ℕ → ℕ → Outcome Played
called s buffer n faults room =
    and_then (tested s buffer n faults) (λ i.
    if not (eqb room (length i.job)) then refused 1 else done (played faults i))

-- what a run comes to
abbrev pub result_of : Played → RunOutcome Transactions
result_of p = run p.inputs p.damages

-- its totals (R-10.9)
abbrev pub totals_of : Played → Totals
totals_of p = record { transmissions = (result_of p).transmissions; journal = size_of (result_of p).journal }

-- its final verdicts, by number (R-10.9, R-10.11)
abbrev pub numbers_of : Played → List ℕ
numbers_of p = map verdict_number (final_verdicts p.inputs p.damages)

-- what a call owes (R-10.9)
pub record Runs (o : Outcome Played) (r : Result Totals Refusal) (buffer buffer' verdicts verdicts' : List ℕ) : Type 0 where
  -- the totals of the run, or the refusal
  pub answers : outcome_of r ≡ map_done totals_of o
  -- the journal in its buffer; a refusal leaves it
  pub stored : buffer' ≡ stored_in (map_done (λ p. (result_of p).journal) o) buffer
  -- the verdicts in theirs; a refusal leaves it
  pub judged : verdicts' ≡ overlay (output (map_done numbers_of o)) verdicts
  -- where the run is played, its damage is fair
  pub fair : (p : Played) → o ≡ done p → Fair p.inputs p.damages
  -- and the whole of demand 3 holds of its inputs
  pub demand : (p : Played) → o ≡ done p → Demand3 p.inputs
  -- and what is claimed of final verdicts
  pub finals : (p : Played) → o ≡ done p → Finals p.inputs
