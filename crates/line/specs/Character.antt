-- The characters of the line by name, and the classes of characters that fields and transactions are made of.
use Rattle.std.specs.Prelude.{Bool, ◌&&◌, ◌||◌, ℕ, leb, ltb, eqb}

-- start of text (R-1.1)
abbrev pub STX : ℕ
STX = 0x02

-- end of text (R-1.1)
abbrev pub ETX : ℕ
ETX = 0x03

-- end of transmission (R-1.1)
abbrev pub EOT : ℕ
EOT = 0x04

-- acknowledge (R-1.1)
abbrev pub ACK : ℕ
ACK = 0x06

-- line feed (R-1.1)
abbrev pub LF : ℕ
LF = 0x0A

-- carriage return (R-1.1)
abbrev pub CR : ℕ
CR = 0x0D

-- negative acknowledge (R-1.1)
abbrev pub NAK : ℕ
NAK = 0x15

-- end of transmission block (R-1.1)
abbrev pub ETB : ℕ
ETB = 0x17

-- escape (R-1.1)
abbrev pub ESC : ℕ
ESC = 0x1B

-- record separator (R-1.1)
abbrev pub RS : ℕ
RS = 0x1E

-- unit separator (R-1.1)
abbrev pub US : ℕ
US = 0x1F

-- a byte: below 100 hex
abbrev pub byte : ℕ → Bool
byte b = ltb b 0x100

-- a 7-bit value: below 80 hex (R-1.1)
abbrev pub seven : ℕ → Bool
seven c = ltb c 0x80

-- a character of a field: 20 to 7E (R-1.2)
abbrev pub printable : ℕ → Bool
printable c = leb 0x20 c && leb c 0x7E

-- a character of a transaction's information: 20 to 7E, or CR (R-1.2)
abbrev pub textual : ℕ → Bool
textual c = printable c || eqb c CR

-- a digit, 0 to 9 (R-1.2)
abbrev pub digit : ℕ → Bool
digit c = leb 0x30 c && leb c 0x39

-- a letter or digit (R-1.2)
abbrev pub alphanumeric : ℕ → Bool
alphanumeric c = digit c || leb 0x41 c && leb c 0x5A || leb 0x61 c && leb c 0x7A
