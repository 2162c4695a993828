-- Records deleted from a journal (document 02, wish 7, "strike"): one by its rank from the newest, or all of one pager.
use Rattle.std.specs.Prelude.{Bool, true, false, not, ◌&&◌, ◌||◌, ◌≡◌, ℕ, ◌+◌, ◌-◌, eqb, leb, length, take, drop, if◌then◌else◌}
use Rattle.std.proofs.Math.Bool.{Bool-discrete}
use mathlib.Core.List.{List, ◌++◌, filter}
use Rattle.line.specs.Answer.{Outcome, done, refused, map_done, and_then, Wrote}
use Rattle.journal.specs.Encoding.{encode}
use Rattle.journal.specs.Storage.{decode_in, size_of}
use Rattle.admission.specs.Content.{is_for, any_for}
use Rattle.central.specs.Lent.{state_of, whole_of}
use Rattle.central.specs.declared.state.Control.{Control}
use Rattle.central.specs.declared.state.Moved.{Moved}
use Rattle.central.specs.declared.state.Stage.{Stage}
use Rattle.central.specs.declared.state.Stage.TheVariants.{Idle, Logon, Block, Closed}
use Rattle.central.specs.declared.state.State.{State}
use Rattle.central.specs.declared.state.Stepped.{Stepped}

-- a call is open: the central is neither Idle nor Closed (R-16.1)
abbrev pub is_open : Stage → Bool
is_open Idle = false
is_open Logon = true
is_open Block = true
is_open Closed = false

-- a state in range, as far as no settings are asked: no row and no unfinished information while no call is open (R-16.3)
abbrev pub rests_in_range : Stage → ℕ → ℕ → Bool
rests_in_range stage failures length = is_open stage || (eqb failures 0 && eqb length 0)

-- the transactions of a journal without the n-th from the newest, which is 1: 9 where there is none (R-16.1)
unfoldable pub without_newest : ℕ → List (List ℕ) → Outcome (List (List ℕ))
without_newest n ts =
    if leb 1 n && leb n (length ts) then done (take (length ts - n) ts ++ drop (length ts - n + 1) ts)
    else refused 9

-- the transactions without those for a pager number: 9 where there is none (R-16.2)
unfoldable pub without_pager : ℕ → List (List ℕ) → Outcome (List (List ℕ))
without_pager m ts = if any_for m ts then done (filter (λ t. Bool-discrete (is_for m t) false) ts) else refused 9

-- the tests that come before, in their order, and the transactions where they pass: 9 where the state is out of range,
-- 1 where the buffer has the wrong size, 7 where the journal is not well formed, 9 where a call is open (R-16.3)
unfoldable pub deletable : State → List ℕ → Outcome (List (List ℕ))
deletable s buffer =
    if not (rests_in_range s.stage s.failures s.length) then refused 9
    else and_then (decode_in buffer s.journal) (λ ts. if is_open s.stage then refused 9 else done ts)

-- the n-th record from the newest is deleted (R-16.1)
abbrev pub deleted : State → List ℕ → ℕ → Outcome (List (List ℕ))
deleted s buffer n = and_then (deletable s buffer) (without_newest n)

-- every record for a pager number is deleted (R-16.2)
abbrev pub deleted_pager : State → List ℕ → ℕ → Outcome (List (List ℕ))
deleted_pager s buffer m = and_then (deletable s buffer) (without_pager m)

-- the state over the journal that is left: a refusal leaves it (R-16.4)
abbrev pub state_over : State → Outcome (List (List ℕ)) → State
state_over s (done ts) = record { stage = s.stage; failures = s.failures; pending = s.pending; length = s.length; journal = size_of ts }
state_over s (refused n) = s

-- what a deletion owes: the journal's new length, its bytes laid over the buffer as it was lent, and the state (R-16.4)
pub record Deletes (o : Outcome (List (List ℕ))) (s : State) (r : Stepped) (buffer buffer' : List ℕ) : Type 0 where
  pub wrote : Wrote (map_done encode o) r.outcome buffer buffer'
  pub state : r.state ≡ state_over s o

-- the same beside lent memory for the unfinished information, whatever that holds (R-16.4)
abbrev pub DeletesIn : (State → Outcome (List (List ℕ))) → Control → Moved → List ℕ → List ℕ → Type 0
DeletesIn f k r buffer buffer' = (array : List ℕ) → Deletes (f (state_of k array)) (state_of k array) (whole_of r array) buffer buffer'
