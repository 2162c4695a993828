-- Blocks: what one is, as document 01 describes it, and what comes of writing and of reading one.
use Rattle.std.specs.Prelude.{Bool, true, not, ◌&&◌, ◌||◌, List, [], ◌∷◌, ◌++◌, ◌≡◌, ℕ, ◌+◌, ◌-◌, ◌≤◌, leb, ltb, eqb, length, take, drop, get_or, if◌then◌else◌}
use Rattle.line.specs.Answer.{Outcome, done, refused, map_done, output}
use Rattle.line.specs.Character.{STX, ETX, ETB, US, CR, seven, textual}
use Rattle.line.specs.Test.{all, same}
use Rattle.line.specs.Transaction.{ends_in_cr}
use Rattle.block.specs.Checksum.{checksum, check_characters}
use Rattle.block.specs.declared.frame.Ending.{Ending}
use Rattle.block.specs.declared.frame.Ending.TheVariants.{Etx, Etb, Us}

-- the character of an ending (R-2.2)
abbrev pub ending_character : Ending → ℕ
ending_character Etx = ETX
ending_character Etb = ETB
ending_character Us = US

-- what a block's check is of: STX through the ending (R-2.4)
abbrev pub summed : List ℕ → Ending → List ℕ
summed info e = STX ∷ info ++ ending_character e ∷ []

-- a block: STX, information, an ending, three check characters, CR (R-2.1)
unfoldable pub block_of : List ℕ → Ending → List ℕ
block_of info e = summed info e ++ check_characters (checksum (summed info e)) ++ CR ∷ []

-- information before ETX or ETB ends in CR; before US it is not empty and does not end in CR (R-2.3)
unfoldable pub agrees : Ending → List ℕ → Bool
agrees Etx info = ends_in_cr info
agrees Etb info = ends_in_cr info
agrees Us info = leb 1 (length info) && not (ends_in_cr info)

-- information that its ending allows: characters 20 to 7E and CR, and the rule of the ending (R-2.3)
abbrev pub right : List ℕ → Ending → Bool
right info e = all textual info && agrees e info

-- a block into a buffer of so many bytes:
-- 1 where it is short, 2 by the length, 3 by a byte of 80 hex or more, 6 by the information (R-2.6)
unfoldable pub write_block : List ℕ → Ending → ℕ → Outcome (List ℕ)
write_block info e room =
    if ltb room (length info + 6) then refused 1
    else if ltb 250 (length info) then refused 2
    else if not (all seven info) then refused 3
    else if not (right info e) then refused 6
    else done (block_of info e)

-- ── Reading ──

-- a character that can carry four bits of a checksum: 30 to 3F
abbrev pub checking : ℕ → Bool
checking c = leb 0x30 c && leb c 0x3F

-- the frame of a block around its information, whatever its checksum:
-- STX, information, an ending, three check characters, CR (R-2.1)
pub record Frame (s info : List ℕ) (e : Ending) (check : List ℕ) : Type 0 where
  pub whole : s ≡ STX ∷ info ++ (ending_character e ∷ check ++ CR ∷ [])
  pub three : length check ≡ 3
  pub range : all checking check ≡ true

-- the characters of a string between STX and the last five (R-2.7)
abbrev pub inside : List ℕ → List ℕ
inside s = take (length s - 6) (drop 1 s)

-- the character before the last four (R-2.7)
abbrev pub ending_at : List ℕ → ℕ
ending_at s = get_or s (length s - 5) 0

-- the three characters before the last (R-2.7)
abbrev pub check_in : List ℕ → List ℕ
check_in s = take 3 (drop (length s - 4) s)

-- a character that is an ending
abbrev pub ends : ℕ → Bool
ends c = eqb c ETX || eqb c ETB || eqb c US

-- the ending of such a character
abbrev pub ending_of : ℕ → Ending
ending_of c = if eqb c ETX then Etx else if eqb c ETB then Etb else Us

-- a character as an ending: 4 where it is none (R-2.7)
abbrev pub ending_in : ℕ → Outcome Ending
ending_in c = if ends c then done (ending_of c) else refused 4

-- a string of at least six characters is a frame, by a test (R-2.7)
unfoldable pub framed : List ℕ → Bool
framed s = eqb (get_or s 0 0) STX && ends (ending_at s) && all checking (check_in s) && eqb (get_or s (length s - 1) 0) CR

-- its check characters are those of the characters before them, by a test (R-2.7)
unfoldable pub summing : List ℕ → Bool
summing s = same (check_in s) (check_characters (checksum (take (length s - 4) s)))

-- information and the ending it was sent with
pub record Segment : Type 0 where
  pub info : List ℕ
  pub ending : Ending

-- a string without parity as a block:
-- 2 by its length, 3 by a byte of 80 hex or more, 4 by the frame, 5 by the checksum, 6 by the information (R-2.7)
unfoldable pub read_block : List ℕ → Outcome Segment
read_block s =
    if not (leb 6 (length s) && leb (length s) 256) then refused 2
    else if not (all seven s) then refused 3
    else if not (framed s) then refused 4
    else if not (summing s) then refused 5
    else if not (right (inside s) (ending_of (ending_at s))) then refused 6
    else done (record { info = inside s; ending = ending_of (ending_at s) })

-- the part of a string between STX and the last five that is handed back: what it holds, and that it lies right behind STX
-- (a place is a block of memory and an offset) (R-2.8)
pub record Within (s : List ℕ) (string : ℕ × ℕ) (part : List ℕ) (place : ℕ × ℕ) : Type 0 where
  pub holds : part ≡ inside s
  pub follows : 6 ≤ length s → place ≡ (string.0, string.1 + 1)

-- the information that is handed back of a string: what it holds, and that it is the very part that follows STX (R-2.8)
pub record Handed (o : Outcome Segment) (string : ℕ × ℕ) (info : List ℕ) (place : ℕ × ℕ) : Type 0 where
  pub holds : info ≡ output (map_done (λ g. g.info) o)
  pub follows : (g : Segment) → o ≡ done g → place ≡ (string.0, string.1 + 1)
