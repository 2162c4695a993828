-- The central's state as a record of numbers beside the lent memory of its unfinished information, and what its steps owe a C
-- caller.
use Rattle.std.specs.Prelude.{List, ◌≡◌, ℕ, eqb, ltb, length, if◌then◌else◌}
use Rattle.line.specs.Answer.{Outcome, done, refused, map_done, output, overlay}
use Rattle.journal.specs.Storage.{stored_in}
use Rattle.central.specs.Reaction.{Reaction, answer_bytes}
use Rattle.central.specs.Lent.{control_in, stepped_in, dropped_in}
use Rattle.central.specs.Step.{saved_as}
use Rattle.central.specs.declared.state.Control.{Control}
use Rattle.central.specs.declared.state.Stage.{Stage}
use Rattle.central.specs.declared.state.Stage.TheVariants.{Idle, Logon, Block, Closed}
use Rattle.central.specs.declared.state.State.{State}
use Rattle.abi.specs.Answer.{answer_of}
use Rattle.abi.specs.Settings.{central_settings_of}
use Rattle.abi.specs.declared.centrals.CentralSettings.{CentralSettings}
use Rattle.abi.specs.declared.centrals.CentralState.{CentralState}
use Rattle.abi.specs.declared.centrals.CentralStepped.{CentralStepped}

-- ── The record of a state ──

-- the number of a stage
abbrev pub stage_number : Stage → ℕ
stage_number Idle = 0
stage_number Logon = 1
stage_number Block = 2
stage_number Closed = 3

-- the stage of a number that is one of these
abbrev pub stage_of : ℕ → Stage
stage_of n = if eqb n 0 then Idle else if eqb n 1 then Logon else if eqb n 2 then Block else Closed

-- the record of a control (R-13.1)
abbrev pub record_of : Control → CentralState
record_of k = record { stage = stage_number k.stage; failures = k.failures; length = k.length; journal = k.journal }

-- the control that a record is (R-13.1)
abbrev pub control_of : CentralState → Control
control_of s = record { stage = stage_of s.stage; failures = s.failures; length = s.length; journal = s.journal }

-- ── Steps ──

-- what the central does with a string, over a journal that is a list of transactions
abbrev pub Reacted : Type 0
Reacted = Reaction (List (List ℕ))

-- a step of the state that a record and an array are: 9 where it has no stage
unfoldable pub central_stepped : CentralState → List ℕ → CentralSettings → List ℕ → List ℕ → List ℕ → ℕ → Outcome Reacted
central_stepped s array settings pagers buffer string room =
    if ltb 3 s.stage then refused 9
    else stepped_in (control_of s) array (central_settings_of settings) pagers buffer string room

-- a refusal by number, which leaves the record
abbrev pub refusing : CentralState → ℕ → CentralStepped
refusing s n = record { answer = answer_of (refused n); state = s }

-- an outcome and a control, in numbers
abbrev pub packed : Outcome ℕ → Control → CentralStepped
packed o k = record { answer = answer_of o; state = record_of k }

-- what is answered of a step over an array: a refusal leaves the record
abbrev pub central_answer : CentralState → List ℕ → Outcome Reacted → CentralStepped
central_answer s array (done x) = packed (done (length (answer_bytes x.answer))) (control_in (saved_as x array))
central_answer s array (refused n) = refusing s n

-- what a step owes a C caller: the numbers and the record, the unfinished information at the start of its array, the journal's
-- buffer, and the output
pub record CentralSteps (o : Outcome Reacted) (s : CentralState) (r : CentralStepped)
    (array array' buffer buffer' out out' : List ℕ) : Type 0 where
  pub answers : r ≡ central_answer s array o
  pub pending : array' ≡ overlay (output (map_done (λ x. x.next.pending) o)) array
  pub stored : buffer' ≡ stored_in (map_done (λ x. x.next.journal) o) buffer
  pub leaves : out' ≡ overlay (output (map_done (λ x. answer_bytes x.answer) o)) out

-- the line is dropped: 9 where the record has no stage
unfoldable pub central_dropped : CentralState → List ℕ → CentralSettings → Outcome State
central_dropped s array settings =
    if ltb 3 s.stage then refused 9 else dropped_in (control_of s) array (central_settings_of settings)

-- what is answered to it
abbrev pub drop_answer : CentralState → Outcome State → CentralStepped
drop_answer s (done t) = packed (done 0) (control_in t)
drop_answer s (refused n) = refusing s n
