-- What the program `blocks` prints for one line of its input (document 01, "Numbers to hold it to").
use Rattle.std.specs.Prelude.{Bool, true, false, not, ◌&&◌, ◌≡◌, ℕ, ◌+◌, ◌<◌, ◌≤◌, eqb, ltb, length, take, drop, get_or, set, if◌then◌else◌}
use mathlib.Core.List.{List, [], ◌∷◌, ◌++◌, flat_map}
use Rattle.line.specs.Answer.{Outcome, done, refused}
use Rattle.line.specs.Character.{STX, ETX, ETB, US, CR, LF, seven, printable}
use Rattle.line.specs.Test.{all, before}
use Rattle.line.specs.Text.{bytes_of}
use Rattle.block.specs.Block.{Segment}
use Rattle.block.specs.Checksum.{check_characters}
use Rattle.block.specs.Segments.{segment, segment_block}
use Rattle.block.specs.declared.frame.Ending.TheVariants.{Etx}
use Rattle.segmentation.specs.Segmentation.{inner_ending, segmentation}

-- a character as it is printed: the control characters of a block by their names (R-12.3)
unfoldable pub shown : ℕ → List ℕ
shown c =
    if eqb c STX then bytes_of "<STX>"
    else if eqb c ETX then bytes_of "<ETX>"
    else if eqb c ETB then bytes_of "<ETB>"
    else if eqb c US then bytes_of "<US>"
    else if eqb c CR then bytes_of "<CR>"
    else c ∷ []

-- characters on a line of their own
abbrev pub printed_line : List ℕ → List ℕ
printed_line text = flat_map shown text ++ LF ∷ []

-- a block on a line of its own
abbrev pub printed_block : Segment → List ℕ
printed_block g = printed_line (segment_block g)

-- the blocks of a transaction, each on a line of its own (R-12.3)
abbrev pub printed_blocks : List ℕ → List ℕ
printed_blocks t = flat_map printed_block (segmentation t)

-- a refusal on a line of its own
abbrev pub printed_refusal : ℕ → List ℕ
printed_refusal n = bytes_of "refused " ++ (0x30 + n) ∷ LF ∷ []

-- a line has a space
abbrev pub spaced : List ℕ → Bool
spaced line = not (all (λ c. not (eqb c 0x20)) line)

-- the information of a line that is cut at its first space into two fields (R-12.3)
unfoldable pub fields_of : List ℕ → List ℕ
fields_of [] = CR ∷ []
fields_of (c ∷ line) = if eqb c 0x20 then CR ∷ line ++ CR ∷ [] else c ∷ fields_of line

-- the place of a line's first space; 2 over 1,999 characters, 3 by a byte of 80 hex or more, 6 by another wrong character or
-- no space (R-12.3)
unfoldable pub checked_line : List ℕ → Outcome ℕ
checked_line line =
    if ltb 1999 (length line) then refused 2
    else if not (all seven line) then refused 3
    else if not (all printable line && spaced line) then refused 6
    else done (before 0x20 line)

-- what is printed for a line that was checked: its blocks, or `refused` with the number
abbrev pub printed_as : Outcome ℕ → List ℕ → List ℕ
printed_as (done space) line = printed_blocks (fields_of line)
printed_as (refused n) line = printed_refusal n

-- what is printed for a line (R-12.3)
unfoldable pub listing : List ℕ → List ℕ
listing line = printed_as (checked_line line) line

-- the same into a buffer of so many bytes: 1 where it has not room for any line's.
-- The longest takes at most 5 bytes for each of 2,048 characters and 8 line ends
unfoldable pub listed : List ℕ → ℕ → Outcome (List ℕ)
listed line room = if ltb room 10248 then refused 1 else done (listing line)

-- ── How it is printed from the line itself ──

-- bytes are put behind the first `at` of the memory, and where they end
pub record Added (at : ℕ) (xs : List ℕ) (end : ℕ) (memory memory' : List ℕ) : Type 0 where
  pub ends : end ≡ at + length xs
  pub leaves : memory' ≡ take at memory ++ (xs ++ drop (at + length xs) memory)

-- characters of a line that a block holds, and the place of the line's first space among them, or one behind them
pub record Cut (part : List ℕ) (space : ℕ) : Type 0 where
  pub text : all printable part ≡ true
  pub short : length part ≤ 250
  pub near : space < 2000
  pub right : space < length part → get_or part space 0 ≡ 0x20

-- the segment that they are: CR in the place of the space, and behind them where it is the last
abbrev pub segment_of : List ℕ → ℕ → Bool → Segment
segment_of part space true = segment (set part space CR ++ CR ∷ []) Etx
segment_of part space false = segment (set part space CR) (inner_ending (set part space CR))

-- how the line of a block ends: check characters, CR and LF
abbrev pub line_end : ℕ → List ℕ
line_end sum = check_characters sum ++ (bytes_of "<CR>" ++ LF ∷ [])
