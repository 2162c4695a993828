-- One step of the gateway (document 02, wish 6): recognize, react, answer.
use Rattle.std.specs.Prelude.{Bool, not, ◌&&◌, List, ◌≡◌, ℕ, leb, ltb, length, if◌then◌else◌}
use Rattle.line.specs.Answer.{Outcome, done, refused, map_done, and_then, output, overlay, outcome_of}
use Rattle.journal.specs.Storage.{transactions, decode_in, size_of, stored_in}
use Rattle.central.specs.Step.{pagers_in_range}
use Rattle.snpp.specs.Command.{recognized}
use Rattle.snpp.specs.Reaction.{Reaction, reacts, answer_text, empty, ongoing}
use Rattle.snpp.specs.State.{in_range, saved, session_of}
use Rattle.snpp.specs.declared.state.Settings.{Settings}
use Rattle.snpp.specs.declared.state.State.{State}
use Rattle.snpp.specs.declared.state.Stepped.{Stepped}

-- settings in range: the longest transaction from 3 to 2,000 (R-15.10)
abbrev pub settings_in_range : Settings → Bool
settings_in_range s = leb 3 s.longest && leb s.longest 2000

-- the tests of a step on a line of so many bytes, in their order, and the transactions of the journal where they pass:
-- 9 where settings, pager list or state are out of range, 1 where the output is short of 6 or the journal's buffer has the
-- wrong size, 7 where the journal is not well formed, 2 for a line over 2,048 bytes (R-15.10)
unfoldable pub tested : State → Settings → List ℕ → List ℕ → ℕ → ℕ → ℕ → Outcome (List (List ℕ))
tested s settings pagers buffer n size room =
    if not (settings_in_range settings && pagers_in_range pagers && in_range s) then refused 9
    else if ltb room 6 then refused 1
    else and_then (decode_in buffer n) (λ ts. if ltb 2048 size then refused 2 else done ts)

-- a step: what the session does with the command that the line says, over the journal of n bytes at the start of the buffer
-- (R-15.3, R-15.10)
unfoldable pub stepped : State → Settings → List ℕ → List ℕ → ℕ → List ℕ → ℕ → Outcome (Reaction (List (List ℕ)))
stepped s settings pagers buffer n line room =
    map_done (λ ts. reacts settings.longest pagers transactions (session_of s) ts (recognized line))
    (tested s settings pagers buffer n (length line) room)

-- the state behind a step: a refusal leaves it (R-15.10)
abbrev pub state_behind : State → Outcome (Reaction (List (List ℕ))) → State
state_behind s (done x) = saved x.next
state_behind s (refused k) = s

-- the journal's length behind a step: a refusal leaves it (R-15.10)
abbrev pub length_behind : ℕ → Outcome (Reaction (List (List ℕ))) → ℕ
length_behind n (done x) = size_of x.journal
length_behind n (refused k) = n

-- what a step owes (R-15.10)
pub record Steps (o : Outcome (Reaction (List (List ℕ)))) (s : State) (n : ℕ) (r : Stepped)
    (buffer buffer' out out' : List ℕ) : Type 0 where
  -- the answer's count, or the refusal
  pub answers : outcome_of r.outcome ≡ map_done (λ x. length (answer_text x.answer)) o
  -- the state behind it
  pub state : r.state ≡ state_behind s o
  -- the journal's length behind it
  pub counts : r.journal ≡ length_behind n o
  -- the journal's buffer
  pub stored : buffer' ≡ stored_in (map_done (λ x. x.journal) o) buffer
  -- the answer lies at the start of the output; all else stays
  pub leaves : out' ≡ overlay (output (map_done (λ x. answer_text x.answer) o)) out

-- the state before the first line
abbrev pub start_state : State
start_state = saved (ongoing empty)
