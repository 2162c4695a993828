-- What the framer owes a C caller.
use Rattle.std.specs.Prelude.{List, [], ◌≡◌, ℕ, length, Option, unwrap_or}
use Rattle.line.specs.Answer.{Outcome, count_of, map_done, output, overlay}
use Rattle.framer.specs.Framing.{Feeding}
use Rattle.framer.specs.State.{handed, state_after}
use Rattle.framer.specs.declared.Framer.{Framer}
use Rattle.abi.specs.Answer.{answer_of}
use Rattle.abi.specs.declared.answer.Answer.{Answer}
use Rattle.abi.specs.declared.framers.FramerFed.{FramerFed}
use Rattle.abi.specs.declared.framers.FramerFlushed.{FramerFlushed}

-- a string's length, or none yet, in numbers: none is 0
abbrev pub framed_answer : Outcome (Option ℕ) → Answer
framed_answer o = answer_of (map_done (λ n. unwrap_or n 0) o)

-- what is answered of a feeding: the string's length, the bytes used, the state; a refusal uses none and leaves it (R-13.1)
abbrev pub fed_answer : Framer → Outcome Feeding → FramerFed
fed_answer s o =
    record {
      answer = answer_of (map_done (λ f. length (handed f)) o);
      used = count_of (map_done (λ f. f.used) o);
      state = state_after s (map_done (λ f. f.held) o);
    }

-- what feeding owes a C caller: the numbers and the state, and the output (R-13.1)
pub record FramerFeeds (o : Outcome Feeding) (s : Framer) (r : FramerFed) (out out' : List ℕ) : Type 0 where
  pub answers : r ≡ fed_answer s o
  pub leaves : out' ≡ overlay (output (map_done handed o)) out

-- what is answered of a flush: the length of what was held, and nothing held behind it; a refusal leaves the state (R-13.1)
abbrev pub flush_answer : Framer → Outcome (List ℕ) → FramerFlushed
flush_answer s o = record { answer = answer_of (map_done length o); state = state_after s (map_done (λ _. []) o) }

-- what a flush owes a C caller: the numbers and the state, and the output (R-13.1)
pub record FramerFlushes (o : Outcome (List ℕ)) (s : Framer) (r : FramerFlushed) (out out' : List ℕ) : Type 0 where
  pub answers : r ≡ flush_answer s o
  pub leaves : out' ≡ overlay (output o) out
