-- What the steps owe, in numbers: a step that is done gives its own record, one that is refused leaves the caller's.
use Rattle.std.specs.Prelude.{Option, Some, None, Result}
use mathlib.Core.Bool.{false, false≢true}
use mathlib.Core.List.{List, []}
use mathlib.Core.Path.{◌≡◌, refl, ap, ◌∙◌}
use Prim.Native.Nat.{ℕ, ◌<◌}
use native.Mathlib.Omega.{arith}
use lib.Dec.{ltb}
use lib.ListN.{length}
use Rattle.line.proofs.OverlayLaws.{overlay-none}
use Rattle.line.specs.Answer.{Outcome, done, refused, map_done, outcome_of, output, overlay}
use Rattle.journal.specs.Storage.{stored_in}
use Rattle.central.specs.Reaction.{Reaction, answer_bytes}
use Rattle.central.specs.Lent.{state_of, control_in, whole_of}
use Rattle.central.specs.Step as CentralStep
use Rattle.central.specs.Step.{state_behind}
use Rattle.central.specs.declared.state.Moved.{Moved}
use Rattle.central.specs.declared.state.State as Central
use Rattle.delete.specs.Deletion.{Deletes, state_over}
use Rattle.device.specs.Step as DeviceStep
use Rattle.device.specs.Step.{Sent, move_of, standing_of, reported_by}
use Rattle.device.specs.declared.state.Stepped as Device
use Rattle.call.specs.Call.{Played, Runs}
use Rattle.call.specs.declared.run.Totals.{Totals}
use Rattle.line.specs.declared.answer.Refusal.{Refusal}
use Rattle.reply.specs.declared.Meaning.TheVariants.{IdRequest, Acceptance, Ack, Nak, Rs, Eot}
use Rattle.reply.specs.Reading.{Reply}
use Rattle.reply.specs.declared.remarks.Remarks.{Remarks}
use Rattle.abi.proofs.AnswerLaws.{puts}
use Rattle.abi.proofs.RecordLaws.{record_back}
use Rattle.abi.specs.Centrals as Centrals
use Rattle.abi.specs.Deletions.{CentralDeletes, record_over}
use Rattle.abi.specs.Devices as Devices
use Rattle.abi.specs.Replies.{reply_number}
use Rattle.abi.specs.Run.{CallRuns, totals_in}
use Rattle.abi.specs.declared.centrals.CentralState.{CentralState}
use Rattle.abi.specs.declared.centrals.CentralStepped.{CentralStepped}
use Rattle.abi.specs.declared.devices.DeviceState.{DeviceState}
use Rattle.abi.specs.declared.devices.DeviceStepped.{DeviceStepped}
use Rattle.abi.specs.declared.run.RunTotals.{RunTotals}

-- of a step of the central
pub central-packed : (s : CentralState) (array : List ℕ) (o : Outcome (Reaction (List (List ℕ)))) {w : Outcome ℕ} (t : Central.State) → ltb 3 s.stage ≡ false →
    w ≡ map_done (λ x. length (answer_bytes x.answer)) o → t ≡ state_behind (state_of (Centrals.control_of s) array) o →
    Centrals.packed w (control_in t) ≡ Centrals.central_answer s array o
central-packed s array (done x) t stage counted behind = rw (counted, behind) refl
central-packed s array (refused n) t stage counted behind = rw (counted, behind, record_back s stage) refl

-- the array behind it
pub central-pending : (s : CentralState) (array : List ℕ) (o : Outcome (Reaction (List (List ℕ)))) →
    (state_behind (state_of (Centrals.control_of s) array) o).pending ≡ overlay (output (map_done (λ x. x.next.pending) o)) array
central-pending s array (done x) = refl
central-pending s array (refused n) = overlay-none array

-- so what a step owes is owed to a C caller
pub central-steps : (o : Outcome (Reaction (List (List ℕ)))) {s : CentralState} {t : Moved} {r : CentralStepped} {array array' buffer buffer' out out' : List ℕ} → ltb 3 s.stage ≡ false →
    CentralStep.Steps o (state_of (Centrals.control_of s) array) (whole_of t array') buffer buffer' out out' → r ≡ Centrals.packed (outcome_of t.outcome) t.control →
    Centrals.CentralSteps o s r array array' buffer buffer' out out'
central-steps o {s} {t} {array = array} {array'} stage k e =
    record {
      answers = e ∙ central-packed s array o (state_of t.control array') stage k.answers k.state;
      pending = ap (λ (u : Central.State). u.pending) k.state ∙ central-pending s array o;
      stored = k.stored;
      leaves = k.leaves;
    }

-- and a refusal leaves all
pub central-refused : {n : ℕ} {s : CentralState} {r : CentralStepped} (array buffer out : List ℕ) → r ≡ Centrals.refusing s n →
    Centrals.CentralSteps (refused n) s r array array buffer buffer out out
unfolding stored_in
central-refused array buffer out e = record { answers = e; pending = overlay-none array; stored = refl; leaves = overlay-none out }

-- where the line was dropped
pub central-drops : (o : Outcome Central.State) (s : CentralState) (array : List ℕ) {t : Moved} {r : CentralStepped} → ltb 3 s.stage ≡ false →
    CentralStep.Drops o (state_of (Centrals.control_of s) array) (whole_of t array) → r ≡ Centrals.packed (outcome_of t.outcome) t.control → r ≡ Centrals.drop_answer s o
central-drops (done x) s array {t} stage k e =
    let same : t.control ≡ control_in x = ap control_in k.state in
    e ∙ rw (k.answers, same) refl
central-drops (refused n) s array {t} stage k e =
    let same : t.control ≡ Centrals.control_of s = ap control_in k.state in
    e ∙ rw (k.answers, same, record_back s stage) refl

-- where records were deleted, the record is over the journal that is left
record_over_lem : (s : CentralState) (o : Outcome (List (List ℕ))) → ltb 3 s.stage ≡ false →
    Centrals.record_of (control_in (state_over (state_of (Centrals.control_of s) []) o)) ≡ record_over s o
record_over_lem s (done ts) stage = record_back (record_over s (done ts)) stage
record_over_lem s (refused n) stage = record_back s stage

-- so what a deletion owes is owed to a C caller
pub central_deletes : {o : Outcome (List (List ℕ))} (s : CentralState) {t : Moved} {r : CentralStepped} {buffer buffer' : List ℕ} → ltb 3 s.stage ≡ false →
    Deletes o (state_of (Centrals.control_of s) []) (whole_of t []) buffer buffer' → r ≡ Centrals.packed (outcome_of t.outcome) t.control → CentralDeletes o s r buffer buffer'
central_deletes {o} s stage k e =
    record {
      puts = puts k.wrote (ap (λ (r : CentralStepped). r.answer) e);
      state = ap (λ (r : CentralStepped). r.state) e ∙ ap (λ (u : Central.State). Centrals.record_of (control_in u)) k.state ∙ record_over_lem s o stage;
    }

-- and a refusal leaves all
pub central-keeps : {n : ℕ} {s : CentralState} {r : CentralStepped} (buffer : List ℕ) → r ≡ Centrals.refusing s n → CentralDeletes (refused n) s r buffer buffer
central-keeps buffer e =
    record { puts = record { answers = ap (λ (r : CentralStepped). r.answer) e; leaves = overlay-none buffer }; state = ap (λ (r : CentralStepped). r.state) e }

-- of a step of the device
pub device-packed : (s : DeviceState) (remarks : Option Remarks) (o : Outcome Sent) {w : Outcome ℕ} (t : Device.Stepped) →
    w ≡ map_done (λ x. length x.string) o → t.state.step ≡ (move_of (Devices.step_of s) o).next → t.given ≡ (move_of (Devices.step_of s) o).given →
    t.report ≡ (move_of (Devices.step_of s) o).report → t.standing ≡ standing_of (Devices.step_of s) o → t.remarks ≡ reported_by o remarks →
    Devices.packed s w t ≡ Devices.device_answer s remarks o
device-packed s remarks (done x) t counted next given report standing shown = rw (counted, next, given, report, standing, shown) refl
device-packed s remarks (refused n) t counted next given report standing shown = rw counted refl

-- so what a step owes is owed to a C caller
pub device-steps : (o : Outcome Sent) {s : DeviceState} {remarks : Option Remarks} {t : Device.Stepped} {r : DeviceStepped} {out out' : List ℕ} →
    DeviceStep.StepsShowing o (Devices.step_of s) remarks t out out' → r ≡ Devices.packed s (outcome_of t.outcome) t → Devices.DeviceSteps o s remarks r out out'
device-steps o {s = s} {remarks = remarks} {t = t} w e =
    let k = w.steps in
    record { answers = e ∙ device-packed s remarks o t k.answers k.state k.gave k.reports k.stands w.shows; leaves = k.leaves }

-- and a refusal leaves all
pub device-refused : {n : ℕ} {s : DeviceState} {remarks : Option Remarks} {r : DeviceStepped} (out : List ℕ) → r ≡ Devices.refusing s n → Devices.DeviceSteps (refused n) s remarks r out out
device-refused out e = record { answers = e; leaves = overlay-none out }

-- what a run owes is owed to a C caller
pub runs : {o : Outcome Played} {t : Result Totals Refusal} {r : RunTotals} {buffer buffer' verdicts verdicts' : List ℕ} →
    Runs o t buffer buffer' verdicts verdicts' → r ≡ totals_in (outcome_of t) → CallRuns o r buffer buffer' verdicts verdicts'
runs k e =
    record { answers = e ∙ ap totals_in k.answers; stored = k.stored; judged = k.judged; fair = k.fair; demand = k.demand; finals = k.finals }

-- and a refusal leaves all
pub run-refused : {n : ℕ} {r : RunTotals} (buffer verdicts : List ℕ) → r ≡ totals_in (refused n) → CallRuns (refused n) r buffer buffer verdicts verdicts
unfolding stored_in
run-refused {n} buffer verdicts e =
    let none : (p : Played) → refused n ≡ done p → ⊥ = λ p h. false≢true (cc h) in
    record { answers = e; stored = refl; judged = overlay-none verdicts; fair = λ p h. absurd (none p h); demand = λ p h. absurd (none p h); finals = λ p h. absurd (none p h) }

-- the numbers of replies are small
pub reply-small : (r : Reply) → reply_number r < 7
reply-small (Some IdRequest) = omega arith
reply-small (Some Acceptance) = omega arith
reply-small (Some Ack) = omega arith
reply-small (Some Nak) = omega arith
reply-small (Some Rs) = omega arith
reply-small (Some Eot) = omega arith
reply-small None = omega arith
