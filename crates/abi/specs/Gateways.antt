-- The gateway's state as a record of numbers and arrays, and what its step owes a C caller.
use Rattle.std.specs.Prelude.{List, ◌≡◌, ℕ, eqb, ltb, length, if◌then◌else◌}
use Rattle.line.specs.Answer.{Outcome, done, refused, map_done, output, overlay}
use Rattle.journal.specs.Storage.{size_of, stored_in}
use Rattle.snpp.specs.Reaction.{Reaction, answer_text}
use Rattle.snpp.specs.State.{saved}
use Rattle.snpp.specs.Step.{stepped}
use Rattle.snpp.specs.declared.state.Settings.{Settings}
use Rattle.snpp.specs.declared.state.Stage.{Stage}
use Rattle.snpp.specs.declared.state.Stage.TheVariants.{Open, Entered, Closed}
use Rattle.snpp.specs.declared.state.State.{State}
use Rattle.abi.specs.Answer.{answer_of}
use Rattle.abi.specs.declared.gateways.GatewaySettings.{GatewaySettings}
use Rattle.abi.specs.declared.gateways.GatewayState.{GatewayState}
use Rattle.abi.specs.declared.gateways.GatewayStepped.{GatewayStepped}

-- ── The record of a state ──

-- the number of a stage
abbrev pub stage_number : Stage → ℕ
stage_number Open = 0
stage_number Entered = 1
stage_number Closed = 2

-- the stage of a number that is one of these
abbrev pub stage_of : ℕ → Stage
stage_of n = if eqb n 0 then Open else if eqb n 1 then Entered else Closed

-- the record of a state (R-13.1)
abbrev pub record_of : State → GatewayState
record_of t =
    record { stage = stage_number t.stage; pager = t.pager; digits = t.digits; message = t.message; length = t.length }

-- the state that a record is (R-13.1)
abbrev pub state_of : GatewayState → State
state_of s = record { stage = stage_of s.stage; pager = s.pager; digits = s.digits; message = s.message; length = s.length }

-- the settings that a record is (R-13.1)
abbrev pub settings_of : GatewaySettings → Settings
settings_of s = record { longest = s.longest }

-- ── A step ──

-- what the gateway does with a line, over a journal that is a list of transactions
abbrev pub Reacted : Type 0
Reacted = Reaction (List (List ℕ))

-- a step of the state that a record is: 9 where it has no stage (R-13.1)
unfoldable pub gateway_stepped : GatewayState → GatewaySettings → List ℕ → List ℕ → ℕ → List ℕ → ℕ → Outcome Reacted
gateway_stepped s settings pagers buffer n line room =
    if ltb 2 s.stage then refused 9 else stepped (state_of s) (settings_of settings) pagers buffer n line room

-- an outcome, a state and a journal's length, in numbers
abbrev pub packed : Outcome ℕ → GatewayState → ℕ → GatewayStepped
packed o s n = record { answer = answer_of o; state = s; journal = n }

-- what is answered of a step over a journal of so many bytes: a refusal leaves the record and the length (R-13.1)
abbrev pub gateway_answer : GatewayState → ℕ → Outcome Reacted → GatewayStepped
gateway_answer s n (done x) = packed (done (length (answer_text x.answer))) (record_of (saved x.next)) (size_of x.journal)
gateway_answer s n (refused k) = packed (refused k) s n

-- what a step owes a C caller: the numbers and the record, the journal's buffer, and the output (R-13.1)
pub record GatewaySteps (o : Outcome Reacted) (s : GatewayState) (n : ℕ) (r : GatewayStepped)
    (buffer buffer' out out' : List ℕ) : Type 0 where
  pub answers : r ≡ gateway_answer s n o
  pub stored : buffer' ≡ stored_in (map_done (λ x. x.journal) o) buffer
  pub leaves : out' ≡ overlay (output (map_done (λ x. answer_text x.answer) o)) out
