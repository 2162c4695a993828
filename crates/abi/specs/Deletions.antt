-- What a deletion owes a C caller.
use Rattle.std.specs.Prelude.{List, [], ◌≡◌, ℕ, ltb, if◌then◌else◌}
use Rattle.line.specs.Answer.{Outcome, done, refused, map_done}
use Rattle.journal.specs.Encoding.{encode}
use Rattle.journal.specs.Storage.{size_of}
use Rattle.central.specs.Lent.{state_of}
use Rattle.central.specs.declared.state.State.{State}
use Rattle.abi.specs.Answer.{Puts}
use Rattle.abi.specs.Centrals.{control_of}
use Rattle.abi.specs.declared.centrals.CentralState.{CentralState}
use Rattle.abi.specs.declared.centrals.CentralStepped.{CentralStepped}

-- what a deletion comes to at the state that a record is, whose unfinished information is not asked for: 9 where the record has
-- no stage (R-13.1)
unfoldable pub deleted_at : CentralState → (State → Outcome (List (List ℕ))) → Outcome (List (List ℕ))
deleted_at s deletion = if ltb 3 s.stage then refused 9 else deletion (state_of (control_of s) [])

-- the record over the journal that is left: a refusal leaves it (R-13.1)
abbrev pub record_over : CentralState → Outcome (List (List ℕ)) → CentralState
record_over s (done ts) = record { stage = s.stage; failures = s.failures; length = s.length; journal = size_of ts }
record_over s (refused n) = s

-- what a deletion owes a C caller: the journal's new length, its bytes laid over the buffer as it was lent, and the record (R-13.1)
pub record CentralDeletes (o : Outcome (List (List ℕ))) (s : CentralState) (r : CentralStepped)
    (buffer buffer' : List ℕ) : Type 0 where
  pub puts : Puts (map_done encode o) r.answer buffer buffer'
  pub state : r.state ≡ record_over s o
