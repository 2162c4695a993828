-- What the functions inside a deletion ask and owe.
use Rattle.std.specs.Prelude.{Result, Bool, false, List, [], ◌∷◌, ◌++◌, reverse, ◌≡◌, ℕ, ◌+◌, eqb, length, take, drop, if◌then◌else◌}
use Rattle.std.specs.Result.{result_unwrap_or}
use Rattle.line.specs.Answer.{Outcome, outcome_of, map_done, and_then, output, overlay}
use Rattle.line.specs.declared.answer.Refusal.{Refusal}
use Rattle.journal.specs.Cursor.{walk_from}
use Rattle.journal.specs.Encoding.{two_bytes, records_of}
use Rattle.journal.specs.declared.cursor.Position.{Position}
use Rattle.admission.specs.Content.{is_for}
use Rattle.central.specs.declared.state.Control.{Control}
use Rattle.central.specs.declared.state.Moved.{Moved}
use Rattle.central.specs.declared.state.Stage.{Stage}
use Rattle.central.specs.declared.state.State.{State}
use Rattle.delete.specs.Deletion.{is_open, without_newest, without_pager, deletable}
use Rattle.delete.specs.declared.choice.Choice.{Choice}
use Rattle.delete.specs.declared.choice.Choice.TheVariants.{Newest, Pager, Nothing}

-- ── Which records ──

-- a record is chosen, by its rank from the newest, by its pager number, or never
abbrev pub is_chosen : Choice → ℕ → List ℕ → Bool
is_chosen (Newest n) rank t = eqb rank n
is_chosen (Pager m) rank t = is_for m t
is_chosen Nothing rank t = false

-- transactions, newest first and the first of this rank, without those that are chosen
unfoldable pub kept_from : Choice → ℕ → List (List ℕ) → List (List ℕ)
kept_from choice rank [] = []
kept_from choice rank (t ∷ ts) =
    if is_chosen choice rank t then kept_from choice (rank + 1) ts else t ∷ kept_from choice (rank + 1) ts

-- the transactions of a journal without those that are chosen: 9 where there is none (`Nothing` is the rank 0, which no record has)
abbrev pub without : Choice → List (List ℕ) → Outcome (List (List ℕ))
without (Newest n) = without_newest n
without (Pager m) = without_pager m
without Nothing = without_newest 0

-- the same of those before a position
abbrev pub removed_from : Choice → List ℕ → Position → Outcome (List (List ℕ))
removed_from choice b p = and_then (map_done reverse (walk_from b p)) (without choice)

-- the records that are chosen are deleted
abbrev pub deleted_chosen : Choice → State → List ℕ → Outcome (List (List ℕ))
deleted_chosen choice s buffer = and_then (deletable s buffer) (without choice)

-- what may be chosen at a stage: nothing in an open call
abbrev pub allowed : Stage → Choice → Choice
allowed stage choice = if is_open stage then Nothing else choice

-- ── Where they go ──

-- where the records of transactions end, and how many they are
abbrev pub end_of : List (List ℕ) → Position
end_of ts = record { end = length (records_of ts); left = length ts }

-- one record more, of this size
abbrev pub one_more : Position → ℕ → Position
one_more p size = record { end = p.end + size; left = p.left + 1 }

-- so many bytes moved down, from a place to an earlier one
abbrev pub moved_down : ℕ → ℕ → ℕ → List ℕ → List ℕ
moved_down to from n b = overlay (take to b ++ take n (drop from b)) b

-- the trailer of so many records of so many bytes
abbrev pub trailer_of : ℕ → ℕ → List ℕ
trailer_of count size = two_bytes count ++ two_bytes size

-- the records of what is kept lie over the start of the bytes, and a refusal leaves these
pub record Compacts (o : Outcome (List (List ℕ))) (r : Result Position Refusal) (before after : List ℕ) : Type 0 where
  pub answers : outcome_of r ≡ map_done end_of o
  pub leaves : after ≡ overlay (records_of (output o)) before

-- ── The answer ──

-- the control over the journal of the new length, or of the old one where the deletion is refused
abbrev pub behind : Control → Result ℕ Refusal → Moved
behind k w =
    record {
      outcome = w;
      control = record { stage = k.stage; failures = k.failures; length = k.length; journal = result_unwrap_or w k.journal };
    }
