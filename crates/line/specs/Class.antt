-- The classes of characters that the code tests, by name.
use Rattle.std.specs.Prelude.{Bool, ℕ}
use Rattle.line.specs.Character.{seven, printable, textual, digit, alphanumeric}
use Rattle.line.specs.declared.character.Class.{Class}
use Rattle.line.specs.declared.character.Class.TheVariants.{SevenBit, Printable, Textual, Digit, Alphanumeric}

-- a byte is of a class (R-1.2)
abbrev pub member : Class → ℕ → Bool
member SevenBit = seven
member Printable = printable
member Textual = textual
member Digit = digit
member Alphanumeric = alphanumeric
