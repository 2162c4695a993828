-- The program `blocks`: the lines of a text, and how a text that is read in pieces is printed through a buffer.
use mathlib.Core.List.{List, [], ◌∷◌, ◌++◌, flat_map}
use Rattle.std.specs.Prelude.{◌≡◌, ℕ, ◌+◌, ◌≤◌, eqb, ltb, length, take, if◌then◌else◌}
use Rattle.line.specs.Character.{LF}
use Rattle.listing.specs.Listing.{listing}
use Rattle.blocks.specs.declared.Filled.{Filled}

-- ── The lines of a text ──

-- a last line that no LF ends is one where it has a character
abbrev pub unended : List ℕ → List (List ℕ)
unended [] = []
unended (c ∷ line) = (c ∷ line) ∷ []

-- the lines of a text, the first with its start in front: LF ends one, and the last may lack it (R-12.3)
unfoldable pub lines : List ℕ → List ℕ → List (List ℕ)
lines line [] = unended line
lines line (c ∷ text) = if eqb c LF then line ∷ lines [] text else lines (line ++ c ∷ []) text

-- ── How they are printed ──

-- where the program stands: what is kept of the present line, what was written out, and what is printed and waits
pub record State : Type 0 where
  pub kept : List ℕ
  pub written : List ℕ
  pub waits : List ℕ

-- what is written out before a line is printed: what waits, where a buffer of so many bytes has no room behind it for what
-- any line prints
unfoldable pub leaves : ℕ → List ℕ → List ℕ
leaves room waits = if ltb room (length waits + 10248) then waits else []

-- what waits still
unfoldable pub stays : ℕ → List ℕ → List ℕ
stays room waits = if ltb room (length waits + 10248) then [] else waits

-- the present line is printed
abbrev pub printed : ℕ → State → State
printed room s = record { kept = []; written = s.written ++ leaves room s.waits; waits = stays room s.waits ++ listing s.kept }

-- a character of the present line is kept. A line of 2,000 is too long already, however many more follow
abbrev pub longer : ℕ → State → State
longer c s = record { kept = take 2000 (s.kept ++ c ∷ []); written = s.written; waits = s.waits }

-- a text has been read
unfoldable pub taken : ℕ → State → List ℕ → State
taken room s [] = s
taken room s (c ∷ text) = if eqb c LF then taken room (printed room s) text else taken room (longer c s) text

-- the input is at its end: a last line that no LF ends is printed
abbrev pub finished : ℕ → State → State
finished room s = if ltb 0 (length s.kept) then printed room s else s

-- ── What the functions promise ──

-- nothing is kept and nothing waits
abbrev pub nothing : Filled
nothing = record { kept = 0; waiting = 0 }

-- where the program stands by its memory, behind what was written out
abbrev pub stand : List ℕ → Filled → List ℕ → List ℕ → State
stand written f line out = record { kept = take f.kept line; written = written; waits = take f.waiting out }

-- what is kept lies within the line's memory, which has room for 2,000;
-- what waits lies within the output's, which has room for what any line prints
pub record Within (f : Filled) (line out : List ℕ) : Type 0 where
  pub keeps : f.kept ≤ length line
  pub lines : length line ≡ 2000
  pub waits : f.waiting ≤ length out
  pub prints : 10248 ≤ length out

-- a text has been read
pub record Took (text line out line' out' : List ℕ) (f f' : Filled) : Type 0 where
  pub within : Within f' line' out'
  pub written : List ℕ
  pub right : taken (length out) (stand [] f line out) text ≡ stand written f' line' out'

-- a whole text has been read, to its end: what was written out and what waits is what its lines print (R-12.3)
pub record Listed (out out' : List ℕ) (waiting : ℕ) : Type 0 where
  pub within : waiting ≤ length out'
  pub text : List ℕ
  pub written : List ℕ
  pub right : finished (length out) (taken (length out) (stand [] nothing [] out) text) ≡
      record { kept = []; written = written; waits = take waiting out' }
  pub whole : written ++ take waiting out' ≡ flat_map listing (lines [] text)
