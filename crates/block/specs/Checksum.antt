-- The checksum of a block and the three characters that carry it (documents 001 and 003).
use Rattle.std.specs.Prelude.{List, [], ◌∷◌, ℕ, ◌+◌, ◌/◌, ◌%◌}
use Rattle.line.specs.Parity.{seven_bits}

-- the sum of the 7-bit values (R-2.4)
unfoldable pub value_sum : List ℕ → ℕ
value_sum [] = 0
value_sum (c ∷ cs) = seven_bits c + value_sum cs

-- the sum modulo 4,096 (R-2.4)
abbrev pub checksum : List ℕ → ℕ
checksum cs = value_sum cs % 4096

-- a sum with one character more, modulo 4,096 (R-2.9)
abbrev pub added : ℕ → ℕ → ℕ
added sum c = (sum + seven_bits c) % 4096

-- a checksum as three characters, 30 hex plus four bits each, highest first (R-2.5)
unfoldable pub check_characters : ℕ → List ℕ
check_characters s = (0x30 + s / 256) ∷ (0x30 + s / 16 % 16) ∷ (0x30 + s % 16) ∷ []
