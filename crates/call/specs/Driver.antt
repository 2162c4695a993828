-- A driver of both ends: what it keeps between two transmissions, which ends of a run that is,
-- and what one transmission makes of it, whatever the damage.
use Rattle.std.specs.Prelude.{true, List, ◌≡◌, ℕ, ◌+◌}
use Rattle.line.specs.Answer.{Outcome, done, output}
use Rattle.journal.specs.Storage.{decode_in, stored_in}
use Rattle.journal.specs.Walk.{decode}
use Rattle.central.specs.Reaction.{Reaction, answer_bytes}
use Rattle.central.specs.Lent.{state_of, start_in}
use Rattle.central.specs.Step as CentralStep
use Rattle.central.specs.declared.state.State as CentralState
use Rattle.device.specs.Reaction.{first, goes, bytes_of_string}
use Rattle.device.specs.Step as DeviceStep
use Rattle.device.specs.declared.state.State as DeviceState
use Rattle.device.specs.declared.state.Step.TheVariants.{Opening}
use Rattle.demand.specs.Run.{Transit, hit, Inputs, Ends, noted, reported, counted, exchange}
use Rattle.call.specs.Call.{Transactions, Setup, ends_in_range, inputs_of}

-- ── What is tested once ──

-- the transactions of the job
abbrev pub job_of : Setup → Transactions
job_of s = output (decode s.job)

-- the inputs of a run that starts with this journal
abbrev pub inputs_from : Setup → Transactions → Inputs Transactions
inputs_from s journal = inputs_of s (job_of s) journal

-- settings and pager list are in range, the job is well formed, and the device's way can cut it (R-10.10)
pub record Sound (s : Setup) : Type 0 where
  pub ranged : ends_in_range s.device s.central s.pagers ≡ true
  pub read : decode s.job ≡ done (job_of s)
  pub cut : DeviceStep.cuts_all s.device.way (job_of s) ≡ true

-- ── Between two transmissions ──

-- what a driver keeps: both ends' saved states, the journal's buffer, and the string that the device has put out (R-10.10)
pub record Kept : Type 0 where
  pub device : DeviceState.State
  pub central : CentralState.State
  pub buffer : List ℕ
  pub string : List ℕ

-- what is kept is these ends of a run, in range (R-10.10)
pub record Holds (s : Setup) (e : Ends Transactions) (k : Kept) : Type 0 where
  -- the device's step
  pub step : k.device.step ≡ e.step
  -- its attempts are in range, and its transaction and block exist in the job
  pub ranged : DeviceStep.step_in_range s.device e.step ≡ true
  pub there : DeviceStep.exists s.device (job_of s) e.step ≡ true
  -- the central, in range
  pub central : CentralStep.central_of k.central e.central.journal ≡ e.central
  pub state : CentralStep.state_in_range s.central k.central ≡ true
  -- the journal, well formed in its buffer
  pub read : decode_in k.buffer k.central.journal ≡ done e.central.journal
  -- the string of the device's step
  pub put : k.string ≡ bytes_of_string s.device (job_of s) e.step

-- the device's first string and step, once it has started
abbrev pub opening : Setup → DeviceStep.Sent
opening s = DeviceStep.sent s.device (job_of s) (goes (Opening first))

-- what is kept before the first transmission: the device started, the central before its first call, whatever its array holds,
-- and a journal of n bytes (R-10.10)
abbrev pub starting : Setup → List ℕ → List ℕ → ℕ → Kept
starting s array buffer n =
    record {
      device = record { step = (opening s).move.next };
      central = state_of (start_in n) array;
      buffer = buffer;
      string = (opening s).string;
    }

-- ── One transmission ──

-- the central's step over what arrives of the string, with so much room for its answer (R-10.10)
abbrev pub central_steps : Setup → Transit → Kept → ℕ → Outcome (Reaction Transactions)
central_steps s d k room =
    CentralStep.stepped k.central s.central s.pagers k.buffer (hit d.out k.string) room

-- the device's step over what arrives of the answer, with so much room for its next string (R-10.10)
abbrev pub device_steps : Setup → Transit → Kept → Reaction Transactions → ℕ → Outcome DeviceStep.Sent
device_steps s d k x room =
    DeviceStep.stepped k.device s.device s.job (hit d.back (answer_bytes x.answer)) room

-- what is kept behind both steps (R-10.10)
abbrev pub behind : Kept → Reaction Transactions → DeviceStep.Sent → Kept
behind k x y =
    record {
      device = record { step = y.move.next };
      central = CentralStep.saved_as x k.central.pending;
      buffer = stored_in (done x.next.journal) k.buffer;
      string = y.string;
    }

-- what both steps make of the ends: the central's reaction, the device's move, its verdict noted, its report kept,
-- and the string counted (R-10.10)
abbrev pub moved : Ends Transactions → Kept → Reaction Transactions → DeviceStep.Sent → Ends Transactions
moved e k x y =
    record {
      step = y.move.next;
      verdicts = noted y.move.given e.verdicts;
      report = reported y.move.report e.report;
      central = x.next;
      transmissions = e.transmissions + counted k.string;
    }

-- a transmission that both steps have made (R-10.10)
pub record Driven (s : Setup) (i : Inputs Transactions) (d : Transit) (e : Ends Transactions) (k : Kept)
    (x : Reaction Transactions) (y : DeviceStep.Sent) : Type 0 where
  -- it is the exchange of the run's definition
  pub exchanges : moved e k x y ≡ exchange i d e
  -- and what is kept behind it is the ends behind that
  pub holds : Holds s (exchange i d e) (behind k x y)
