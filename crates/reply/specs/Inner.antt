-- What the functions that search for the lines ask of each other.
use mathlib.Core.List.{List, ◌∷◌, foldl, map}
use Rattle.std.specs.Prelude.{◌≡◌, ℕ, Option, ◌+◌, ◌-◌, ◌≤◌, length, get_or, take, drop}
use Rattle.line.specs.Parity.{seven_bits}
use Rattle.reply.specs.Remarks.{span, remarks, newer, before_code, lines_in}
use Rattle.reply.specs.declared.remarks.Remarks.{Remarks}
use Rattle.reply.specs.declared.remarks.Search.{Search}
use Rattle.reply.specs.declared.remarks.Span.{Span}

-- the character at a place
abbrev pub character_at : List ℕ → ℕ → ℕ
character_at bytes i = seven_bits (get_or bytes i 0)

-- the text of the bytes between two places
abbrev pub between : List ℕ → ℕ → ℕ → List ℕ
between bytes begin end = map seven_bits (take (end - begin) (drop begin bytes))

-- what a search that has come to a place finds, with this text still to do
abbrev pub found : Search → List ℕ → ℕ → List ℕ → Option Span
found s bytes i rest = foldl newer s.last (lines_in s.begin (between bytes s.begin i) rest)

-- what the search behind the character at a place owes: it finds what was to be found from that character on
pub record Passes (s : Search) (bytes : List ℕ) (i : ℕ) (r : Search) : Type 0 where
  pub begun : r.begin ≤ i + 1
  pub finds : (rest : List ℕ) → found r bytes (i + 1) rest ≡ found s bytes i (character_at bytes i ∷ rest)

-- what it shows where the lines end
abbrev pub shown : Search → ℕ → Remarks
shown s end = remarks (span 0 end) s.last

-- what a search that has come to a place is to show
abbrev pub to_show : Search → List ℕ → ℕ → Remarks
to_show s bytes i =
    let rest : List ℕ = before_code (map seven_bits (drop i bytes)) in
    remarks (span 0 (i + length rest)) (found s bytes i rest)
