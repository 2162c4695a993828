-- Even parity (document 001): bit 7 is set so that each byte on the line has an even number of ones.
use Rattle.std.specs.Prelude.{Bool, not, List, map, ℕ, ◌+◌, ◌*◌, ◌%◌, eqb, ltb, length, if◌then◌else◌}
use Rattle.std.specs.Int.Count.{ones}
use Rattle.line.specs.Answer.{Outcome, done, refused}
use Rattle.line.specs.Character.{seven}
use Rattle.line.specs.Test.{all}

-- a byte with an even number of ones (R-1.3)
abbrev pub even : ℕ → Bool
even b = eqb (ones b % 2) 0

-- a character as it goes on the line: bit 7 set where its own ones are odd (R-1.3)
abbrev pub with_parity : ℕ → ℕ
with_parity c = c + 0x80 * (ones c % 2)

-- the 7-bit value of a byte (R-1.3)
abbrev pub seven_bits : ℕ → ℕ
seven_bits b = b % 0x80

-- a byte with bit 7 flipped (R-1.6)
abbrev pub flip_top : ℕ → ℕ
flip_top b = (b + 0x80) % 0x100

-- characters into a buffer of so many bytes, with parity: 1 where it is short, 3 where one is no 7-bit value (R-1.4)
unfoldable pub parity_on : List ℕ → ℕ → Outcome (List ℕ)
parity_on text room =
    if ltb room (length text) then refused 1
    else if not (all seven text) then refused 3
    else done (map with_parity text)

-- bytes of the line into a buffer of so many bytes, without parity:
-- 1 where it is short, 3 where one has an odd number of ones (R-1.5)
unfoldable pub parity_off : List ℕ → ℕ → Outcome (List ℕ)
parity_off line room =
    if ltb room (length line) then refused 1
    else if not (all even line) then refused 3
    else done (map seven_bits line)
