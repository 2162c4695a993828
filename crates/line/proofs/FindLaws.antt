-- Laws of `before`, the place of the first of its kind in a list: by a test, and that it lies within the list.
use Rattle.std.specs.Prelude.{if◌then◌else◌}
use mathlib.Core.Bool.{Bool, true, false}
use mathlib.Core.List.{List, [], ◌∷◌}
use mathlib.Core.Path.{◌≡◌, refl}
use Prim.Native.Nat.{ℕ, suc, ◌+◌, ◌≤◌}
use native.Mathlib.Omega.{arith}
use lib.Dec.{eqb}
use lib.ListN.{length, drop, length-drop}
use Rattle.line.specs.Test.{before, before_first}

-- the place of the first that is y, by the test
pub before_first-is : (y : ℕ) (xs : List ℕ) → before_first (λ x. eqb x y) xs ≡ before y xs
unfolding before before_first
before_first-is y [] = refl
before_first-is y (x ∷ xs) = rw (before_first-is y xs)

-- a place is within the list
pub before-within : (y : ℕ) (xs : List ℕ) → before y xs ≤ length xs
unfolding before
before-within y [] = omega arith
before-within y (x ∷ xs) = go (eqb x y) (before-within y xs)
  where
    go : (b : Bool) → before y xs ≤ length xs → (if b then 0 else suc (before y xs)) ≤ length (x ∷ xs)
    go true h = omega arith
    go false h = omega arith

-- a place that is looked for from a place on is too
pub find-within : (y : ℕ) (xs : List ℕ) (from : ℕ) → from ≤ length xs → from + before y (drop from xs) ≤ length xs
find-within y xs from h = omega (arith, before-within y (drop from xs), length-drop from xs)
