-- The kinds of bytes that the code tests, by name.
use Rattle.std.specs.Prelude.{Bool, not, ℕ}
use Rattle.framer.specs.Framing.{is_opening, is_ending}
use Rattle.framer.specs.declared.kind.Kind.{Kind}
use Rattle.framer.specs.declared.kind.Kind.TheVariants.{Opening, Ending, Inner}

-- a byte is of a kind (R-14.1)
abbrev pub member : Kind → ℕ → Bool
member Opening b = is_opening b
member Ending b = is_ending b
member Inner b = not (is_ending b)
