-- A saved state whose unfinished information lies in lent memory (R-7.11): its control beside the array. A step there is the step
-- of the state that both are.
use Rattle.std.specs.Prelude.{List, ℕ, eqb, length, Err, if◌then◌else◌}
use Rattle.line.specs.Answer.{Outcome, refused}
use Rattle.line.specs.declared.answer.Refusal.{Refusal}
use Rattle.central.specs.Reaction.{Reaction}
use Rattle.central.specs.Step.{stepped, dropped}
use Rattle.central.specs.declared.state.Control.{Control}
use Rattle.central.specs.declared.state.Moved.{Moved}
use Rattle.central.specs.declared.state.Settings.{Settings}
use Rattle.central.specs.declared.state.Stage.TheVariants.{Idle}
use Rattle.central.specs.declared.state.State.{State}
use Rattle.central.specs.declared.state.Stepped.{Stepped}

-- the state that a control and an array are
abbrev pub state_of : Control → List ℕ → State
state_of k array = record { stage = k.stage; failures = k.failures; pending = array; length = k.length; journal = k.journal }

-- the control of a state
abbrev pub control_in : State → Control
control_in s = record { stage = s.stage; failures = s.failures; length = s.length; journal = s.journal }

-- what a step answers, and the array behind it, as one value
abbrev pub whole_of : Moved → List ℕ → Stepped
whole_of r array = record { outcome = r.outcome; state = state_of r.control array }

-- the control before the first call, over a journal of n bytes
abbrev pub start_in : ℕ → Control
start_in n = record { stage = Idle; failures = 0; length = 0; journal = n }

-- a step: 9 where the array has another size than 2,000 bytes, and so is no part of a state
unfoldable pub stepped_in : Control → List ℕ → Settings → List ℕ → List ℕ → List ℕ → ℕ → Outcome (Reaction (List (List ℕ)))
stepped_in k array settings pagers buffer string room =
    if eqb (length array) 2000 then stepped (state_of k array) settings pagers buffer string room else refused 9

-- the line is dropped: 9 as in a step
unfoldable pub dropped_in : Control → List ℕ → Settings → Outcome State
dropped_in k array settings = if eqb (length array) 2000 then dropped (state_of k array) settings else refused 9

-- a refusal, which leaves the control
abbrev pub refusing : Control → Refusal → Moved
refusing k q = record { outcome = Err q; control = k }
