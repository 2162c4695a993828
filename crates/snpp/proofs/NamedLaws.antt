-- Laws that docs/ names and that no proof uses any more: a line's word, and a line that is its word alone.
use mathlib.Core.List.{List, [], ◌∷◌, map}
use mathlib.Core.Path.{◌≡◌, refl}
use Prim.Native.Nat.{ℕ, ◌≤◌}
use native.Mathlib.Omega.{arith}
use lib.ListN.{length, get_or, take, drop_of_length-le}
use Rattle.snpp.specs.Command.{to_capital, bare_command, recognized}

-- a line of four characters or more has this word
pub word_of : (line : List ℕ) → 4 ≤ length line →
    map to_capital (take 4 line) ≡ to_capital (get_or line 0 0) ∷ to_capital (get_or line 1 0) ∷ to_capital (get_or line 2 0) ∷ to_capital (get_or line 3 0) ∷ []
word_of [] h = absurd (omega arith)
word_of (a ∷ []) h = absurd (omega arith)
word_of (a ∷ b ∷ []) h = absurd (omega arith)
word_of (a ∷ b ∷ c ∷ []) h = absurd (omega arith)
word_of (a ∷ b ∷ c ∷ d ∷ line) h = refl

-- a line that is its word alone
pub recognized_bare : (line : List ℕ) → length line ≡ 4 → recognized line ≡ bare_command (map to_capital (take 4 line))
unfolding recognized
recognized_bare line h = rw (drop_of_length-le line {i = 4} (omega arith))
