-- Where the records of a journal lie, and what one walk finds of them.
use Rattle.std.specs.Prelude.{List, [], ◌∷◌, ◌≡◌, ℕ, ◌+◌, ◌-◌, ◌≤◌, ◌<◌, length, take, drop, get_or}
use Rattle.line.specs.Answer.{done, output}
use Rattle.journal.specs.Walk.{newest_first, decode}
use Rattle.journal.specs.declared.record.Extent.{Extent}
use Rattle.journal.specs.declared.record.Located.{Located}

-- no record: an extent of no bytes
abbrev pub nowhere : Extent
nowhere = record { start = 0; length = 0 }

-- where the informations of transactions lie whose records follow one another from a place on: each record is two bytes longer
unfoldable pub extents_from : ℕ → List (List ℕ) → List Extent
extents_from at [] = []
extents_from at (t ∷ ts) = record { start = at; length = length t } ∷ extents_from (at + (length t + 2)) ts

-- where the information of a journal's record at an index from the oldest lies (R-9.7)
abbrev pub extent_at : List (List ℕ) → ℕ → Extent
extent_at ts i = get_or (extents_from 0 ts) i nowhere

-- what one walk finds: how many records there are, and where the one at an index from the oldest and the one behind it lie
-- (R-9.7)
abbrev pub survey_of : ℕ → List (List ℕ) → Located
survey_of i ts = record { count = length ts; here = extent_at ts i; next = extent_at ts (i + 1) }

-- a transaction lies at an extent of the bytes, and within them (R-9.7)
pub record Lies (b : List ℕ) (e : Extent) (t : List ℕ) : Type 0 where
  pub inside : e.start + e.length ≤ length b
  pub holds : take e.length (drop e.start b) ≡ t

-- the part that begins where a journal's record at an index from the oldest lies (a place is a block of memory and an offset)
abbrev pub part_at : ℕ × ℕ → List (List ℕ) → ℕ → ℕ × ℕ
part_at journal ts i = (journal.0, journal.1 + (extent_at ts i).start)

-- the information that is handed back of the record at an index from the oldest: what it holds, and the very part where it
-- lies (R-9.7)
pub record HandedOldest (b : List ℕ) (i : ℕ) (journal : ℕ × ℕ) (info : List ℕ) (part : ℕ × ℕ) : Type 0 where
  pub holds : info ≡ get_or (output (decode b)) i []
  pub lies : (ts : List (List ℕ)) → decode b ≡ done ts → i < length ts → part ≡ part_at journal ts i

-- the same of the record at an index from the newest (R-9.7)
pub record HandedNewest (b : List ℕ) (i : ℕ) (journal : ℕ × ℕ) (info : List ℕ) (part : ℕ × ℕ) : Type 0 where
  pub holds : info ≡ get_or (output (newest_first b)) i []
  pub lies : (ts : List (List ℕ)) → decode b ≡ done ts → i < length ts → part ≡ part_at journal ts (length ts - 1 - i)
