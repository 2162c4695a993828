-- The framer's saved state, what its functions owe, and which states its start can lead to.
use Rattle.std.specs.Prelude.{Bool, not, ◌&&◌, List, [], ◌≡◌, ℕ, eqb, ltb, length, take, drop, replicate, option_map, unwrap_or, if◌then◌else◌}
use Rattle.line.specs.Answer.{Outcome, done, refused, map_done, count_of, output, outcome_of, overlay, Wrote}
use Rattle.line.specs.Test.{all}
use Rattle.framer.specs.Framing.{Feeding, fed, unfinished}
use Rattle.framer.specs.declared.Framer.{Framer}
use Rattle.framer.specs.declared.Fed.{Fed}
use Rattle.framer.specs.declared.Flushed.{Flushed}

-- the array with nothing in it
unfoldable pub blank : List ℕ
blank = replicate 256 0

-- the state that holds these bytes: zeros stand behind them (R-14.4)
abbrev pub state_of : List ℕ → Framer
state_of h = record { held = overlay h blank; length = length h }

-- the bytes that a state holds (R-14.4)
abbrev pub held_in : Framer → List ℕ
held_in s = take s.length s.held

-- a saved state in range: it holds what can be held, and zeros stand behind. That is what the start can lead to, and nothing
-- else: the laws `reached_in_range` and `in_range-reached` (R-14.4)
unfoldable pub in_range : Framer → Bool
in_range s = unfinished (held_in s) && all (λ b. eqb b 0) (drop s.length s.held)

-- what comes of a call, unless it is refused: 9 for a state out of range, 1 for an output under 256 bytes (R-14.6)
unfoldable pub tested : {A : Type 0} → Framer → ℕ → A → Outcome A
tested s room x = if not (in_range s) then refused 9 else if ltb room 256 then refused 1 else done x

-- feeding a state (R-14.3, R-14.6)
abbrev pub fed_to : Framer → List ℕ → ℕ → Outcome Feeding
fed_to s bytes room = tested s room (fed (held_in s) bytes)

-- nothing more came: what is held is handed over as it stands (R-14.7)
abbrev pub flushed : Framer → ℕ → Outcome (List ℕ)
flushed s room = tested s room (held_in s)

-- the state behind a call, by what is held then; a refusal changes nothing
abbrev pub state_after : Framer → Outcome (List ℕ) → Framer
state_after s (done h) = state_of h
state_after s (refused n) = s

-- the string that a feeding hands over: no bytes where none is complete yet (R-14.3)
abbrev pub handed : Feeding → List ℕ
handed f = unwrap_or f.string []

-- what `feed` owes (R-14.3)
pub record Feeds (o : Outcome Feeding) (s : Framer) (r : Fed) (before after : List ℕ) : Type 0 where
  -- the string's length, none yet, or the refusal
  pub answers : outcome_of r.outcome ≡ map_done (λ f. option_map length f.string) o
  -- how many bytes were used: none where it is refused
  pub uses : r.used ≡ count_of (map_done (λ f. f.used) o)
  -- the state behind it
  pub next : r.state ≡ state_after s (map_done (λ f. f.held) o)
  -- the string lies at the start of the output; all else stays
  pub leaves : after ≡ overlay (output (map_done handed o)) before

-- what `flush` owes (R-14.7)
pub record Flushes (o : Outcome (List ℕ)) (s : Framer) (r : Flushed) (before after : List ℕ) : Type 0 where
  -- the string, at the start of the output
  pub wrote : Wrote o r.outcome before after
  -- nothing is held behind it
  pub next : r.state ≡ state_after s (map_done (λ _. []) o)

-- a state to which the start leads: the start itself, and what feeding or flushing leaves (R-14.4)
pub data Reached : Framer → Type 0 where
  begun : Reached (state_of [])
  onward : {s : Framer} {f : Feeding} → Reached s → (bytes : List ℕ) (room : ℕ) → fed_to s bytes room ≡ done f → Reached (state_of f.held)
  emptied : {s : Framer} {string : List ℕ} → Reached s → (room : ℕ) → flushed s room ≡ done string → Reached (state_of [])
