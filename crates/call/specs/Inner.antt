-- What the functions inside a run ask and owe: what arrives of a string, both ends in memory, one transmission.
use Rattle.std.specs.Prelude.{false, List, map, ◌≡◌, ℕ, ◌≤◌, ◌<◌, length, take}
use Rattle.line.specs.Answer.{done, output}
use Rattle.journal.specs.Storage.{decode_in, size_of, stored_in}
use Rattle.central.specs.Lent.{state_of}
use Rattle.device.specs.Reaction.{verdict_number}
use Rattle.device.specs.Settling.{is_stopped, standing_at}
use Rattle.device.specs.declared.state.Report.TheVariants as Reporting
use Rattle.demand.specs.Faults.{damage, damages, faulted}
use Rattle.demand.specs.Final.{settled_in}
use Rattle.demand.specs.Run.{hit, Inputs, Ends, start, exchange, final}
use Rattle.call.specs.Call.{Transactions, Setup, setup}
use Rattle.call.specs.Driver.{job_of, inputs_from, Sound, Kept, Holds}
use Rattle.call.specs.declared.exchange.Saved.{Saved}
use Rattle.call.specs.declared.fault.Part.{Part}
use Rattle.call.specs.declared.fault.Part.TheVariants.{Whole, Garbled, Lost}
use Rattle.call.specs.declared.setup.Setup as Lent
use Rattle.call.specs.declared.run.Totals.{Totals}

-- ── What is lent ──

-- the setup that is lent: its bytes and its pager list
abbrev pub setup_of : Lent.Setup → Setup
setup_of s = setup s.device s.central s.pagers.now s.job.now

-- ── A string on the line ──

-- the number of a part of a fault (R-10.6)
abbrev pub part_number : Part → ℕ
part_number Whole = 0
part_number Garbled = 1
part_number Lost = 2

-- what arrives of a string, by its part of a fault: 0 whole, 1 garbled, 2 lost
abbrev pub arrives : ℕ → List ℕ → List ℕ
arrives part bytes = hit (damage part bytes) bytes

-- so many bytes at the start of the memory are what arrives of the bytes
pub record Arrives (part : ℕ) (bytes : List ℕ) (n : ℕ) (memory : List ℕ) : Type 0 where
  pub inside : n ≤ length memory
  pub arrived : take n memory ≡ arrives part bytes

-- ── Both ends in the run's memory ──

-- what a run keeps: the saved states, the central's with its unfinished information, the journal's buffer, and the string at
-- the start of the device's memory
abbrev pub kept_in : Saved → List ℕ → List ℕ → List ℕ → Kept
kept_in saved buffer pending memory =
    record { device = saved.device; central = state_of saved.central pending; buffer = buffer; string = take saved.count memory }

-- the saved states and the memory hold these ends of a run of the setup
pub record Stands (s : Setup) (e : Ends Transactions) (saved : Saved) (buffer pending memory verdicts : List ℕ) : Type 0 where
  pub sound : Sound s
  pub holds : Holds s e (kept_in saved buffer pending memory)
  pub sized : length pending ≡ 2000
  pub inside : saved.count ≤ length memory
  pub wide : length memory ≡ 256
  pub numbers : verdicts ≡ map verdict_number e.verdicts
  -- how the device says that the accepted verdicts stand; it has reported nothing while it goes on
  pub said : saved.standing ≡ standing_at s.device.confirmation e.step e.report
  pub unreported : is_stopped e.step ≡ false → e.report ≡ Reporting.Nothing

-- a run of the setup is underway: its starting journal, both ends as they stand, and a string to send
pub record Underway (s : Setup) (saved : Saved) (buffer pending memory verdicts : List ℕ) : Type 0 where
  pub first : Transactions
  pub ends : Ends Transactions
  pub stands : Stands s ends saved buffer pending memory verdicts
  pub sends : 0 < saved.count

-- ── One transmission ──

-- what a transmission with this fault owes: the ends behind it stand, and their journal is in the buffer
pub record Exchanged (s : Setup) (i : Inputs Transactions) (fault : ℕ) (e : Ends Transactions) (r : Saved)
    (buffer buffer' pending' memory' verdicts' : List ℕ) : Type 0 where
  pub stands : Stands s (exchange i (damages i fault e) e) r buffer' pending' memory' verdicts'
  pub stored : buffer' ≡ stored_in (done (exchange i (damages i fault e) e).central.journal) buffer

-- the same of every run that is underway so
abbrev pub Exchanges : Setup → ℕ → Saved → Saved → List ℕ → List ℕ → List ℕ → List ℕ → List ℕ → List ℕ → List ℕ → List ℕ → Type 0
Exchanges s fault saved r buffer buffer' pending pending' memory memory' verdicts verdicts' =
    (u : Underway s saved buffer pending memory verdicts) →
    Exchanged s (inputs_from s u.first) fault u.ends r buffer buffer' pending' memory' verdicts'

-- ── The run ──

-- the inputs of a run, from a journal of n bytes in its buffer
abbrev pub inputs_in : Setup → List ℕ → ℕ → Inputs Transactions
inputs_in s buffer n = inputs_from s (output (decode_in buffer n))

-- what a run that begins has tested
pub record Ready (s : Setup) (buffer : List ℕ) (n : ℕ) (verdicts : List ℕ) : Type 0 where
  pub sound : Sound s
  pub read : decode_in buffer n ≡ done (output (decode_in buffer n))
  pub one_each : length verdicts ≡ length (job_of s)

-- the ends stand as a run starts
abbrev pub Begins : Setup → Saved → List ℕ → List ℕ → List ℕ → List ℕ → Type 0
Begins s saved buffer pending memory verdicts =
    Stands s (start (inputs_in s buffer saved.central.journal)) saved buffer pending memory verdicts

-- both ends once a run over the faults has come to its end
abbrev pub ends_of : Setup → List ℕ → ℕ → List ℕ → Ends Transactions
ends_of s buffer n faults = final (inputs_in s buffer n) (faulted (inputs_in s buffer n) faults)

-- what a run of the inputs owes that comes to these ends: its totals, the journal's buffer and the verdict buffer, settled
pub record Plays (i : Inputs Transactions) (e : Ends Transactions) (t : Totals) (buffer buffer' verdicts' : List ℕ) : Type 0 where
  pub totals : t ≡ record { transmissions = e.transmissions; journal = size_of e.central.journal }
  pub stored : buffer' ≡ stored_in (done e.central.journal) buffer
  pub numbers : verdicts' ≡ map verdict_number (settled_in i e)
