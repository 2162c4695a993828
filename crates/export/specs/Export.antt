-- A journal written out (document 02, wish 6): its records, oldest first, as the lines PAGE, MESS and SEND.
use Rattle.std.specs.Prelude.{Bool, true, ◌&&◌, ◌≡◌, ℕ, ◌+◌, ◌≤◌, ltb, length, drop, if◌then◌else◌}
use mathlib.Core.List.{List, [], ◌∷◌, ◌++◌, flat_map}
use Rattle.line.specs.Answer.{Outcome, done, refused, map_done, and_then, output, Laid}
use Rattle.line.specs.Character.{CR, LF}
use Rattle.line.specs.Text.{bytes_of}
use Rattle.journal.specs.Cursor.{walk_from}
use Rattle.journal.specs.Walk.{decode}
use Rattle.journal.specs.declared.cursor.Position.{Position}
use Rattle.admission.specs.Content.{first_field, is_page}

-- the end of a line
abbrev pub line_end : List ℕ
line_end = CR ∷ LF ∷ []

-- the lines of a page (R-15.9)
abbrev pub page_lines : List ℕ → List ℕ → List ℕ
page_lines pager text = bytes_of "PAGE " ++ pager ++ line_end ++ bytes_of "MESS " ++ text ++ line_end ++ bytes_of "SEND" ++ line_end

-- the characters between the first CR and the next
unfoldable pub second_field : List ℕ → List ℕ
second_field t = first_field (drop (length (first_field t) + 1) t)

-- the lines of a record that is a page (R-15.9)
abbrev pub lines_for : List ℕ → List ℕ
lines_for t = page_lines (first_field t) (second_field t)

-- the lines of records, oldest first (R-15.9)
unfoldable pub lines_of : List (List ℕ) → List ℕ
lines_of ts = flat_map lines_for ts

-- every record is a page: two fields, the first 1 to 8 digits (R-15.9)
unfoldable pub all_pages : List (List ℕ) → Bool
all_pages [] = true
all_pages (t ∷ ts) = is_page t && all_pages ts

-- records that are pages: 6 where one is none (R-15.9)
abbrev pub only_pages : List (List ℕ) → Outcome (List (List ℕ))
only_pages ts = if all_pages ts then done ts else refused 6

-- the transactions of a journal whose records are pages: 7 where it is not well formed, then 6 (R-15.9)
abbrev pub pages_in : List ℕ → Outcome (List (List ℕ))
pages_in journal = and_then (decode journal) only_pages

-- a journal written out, into a buffer of so many bytes: 1 where it has not room for any journal's lines. A page has 18 bytes
-- more as lines, so that 64 records of 32,000 bytes, each with two bytes for its length, have 33,024 (R-15.9)
unfoldable pub written_out : List ℕ → ℕ → Outcome (List ℕ)
written_out journal room = if ltb room 33024 then refused 1 else map_done lines_of (pages_in journal)

-- ── What the functions inside ask and owe ──

-- the same of the records before a position, newest first
abbrev pub pages_from : List ℕ → Position → Outcome (List (List ℕ))
pages_from journal p = and_then (walk_from journal p) only_pages

-- the transactions of a journal
abbrev pub transactions_of : List ℕ → List (List ℕ)
transactions_of journal = output (decode journal)

-- a journal of pages, and room for its lines
pub record Exportable (journal out : List ℕ) : Type 0 where
  pub pages : pages_in journal ≡ done (transactions_of journal)
  pub room : 33024 ≤ length out

-- bytes are put behind what has been laid over the memory
abbrev pub Adds : ℕ → List ℕ → ℕ → List ℕ → List ℕ → Type 0
Adds at xs end out out' = (laid memory : List ℕ) → Laid laid at memory out → length memory ≡ length out → Laid (laid ++ xs) end memory out'
