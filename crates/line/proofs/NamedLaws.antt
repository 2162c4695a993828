-- Laws that docs/ names and that no proof uses any more: a loop that compares two lists or looks for a member, step by step.
use mathlib.Core.Bool.{Bool, true, false}
use mathlib.Core.List.{List, []}
use mathlib.Core.Path.{◌≡◌, refl, sym, ◌∙◌}
use Prim.Native.Nat.{ℕ, ◌≤◌, ◌<◌}
use native.Mathlib.Omega.{arith}
use borrow.Author.Tests.{eq-eqb, ne_eqb, leb-true, leb-false}
use lib.Dec.{leb}
use lib.ListN.{length, get_or, drop, drop_of_length-le}
use lib.Seq.{drop-cons}
use Rattle.line.specs.Test.{before, same}

-- the member at i is the one that is looked for
pub before_here : (y : ℕ) (xs : List ℕ) (i : ℕ) → get_or xs i 0 ≡ y → i < length xs → before y (drop i xs) ≡ 0
unfolding before
before_here y xs i e h = rw (drop-cons xs i 0 h, eq-eqb (get_or xs i 0) y e)

-- nothing is left exactly from the end on
pub none_left : (xs : List ℕ) (i : ℕ) → same (drop i xs) [] ≡ leb (length xs) i
unfolding same
none_left xs i = go (leb (length xs) i) refl
  where
    go : (b : Bool) → leb (length xs) i ≡ b → same (drop i xs) [] ≡ b
    go true e = rw (drop_of_length-le xs (leb-true _ _ e))
    go false e = rw (drop-cons xs i 0 (leb-false _ _ e))

-- a loop that has passed the members below i of two lists of one length: the rest decides
module _ (xs ys : List ℕ) (i : ℕ) (l : length xs ≡ length ys) (rest : same xs ys ≡ same (drop i xs) (drop i ys)) where
  -- the members at i differ
  pub same_failed : (get_or xs i 0 ≡ get_or ys i 0 → ⊥) → i < length xs → false ≡ same xs ys
  unfolding same
  same_failed e h = sym (rest ∙ rw (drop-cons xs i 0 h, drop-cons ys i 0 (omega arith), ne_eqb (get_or xs i 0) (get_or ys i 0) e))

  -- none is left
  pub same_ended : length xs ≤ i → true ≡ same xs ys
  unfolding same
  same_ended h = sym (rest ∙ rw (drop_of_length-le xs h, drop_of_length-le ys {i = i} (omega arith)))
