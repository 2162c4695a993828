-- Laws of `same`, the test of two lists: it decides that they are equal; as a loop makes it, and over an append.
use mathlib.Core.Bool.{Bool, true, false, ◌&&◌, and_assoc, and-eq-true_iff, and-true}
use mathlib.Core.List.{List, [], ◌∷◌, ◌++◌}
use mathlib.Core.Path.{◌≡◌, refl, sym, ap, ◌∙◌}
use Prim.Native.Nat.{ℕ, suc, ◌-◌, ◌≤◌}
use native.Mathlib.Omega.{arith}
use borrow.Author.Tests.{eqb-true, eq-eqb}
use lib.Dec.{eqb}
use lib.ListN.{length, get_or, take, drop, drop_of_length-le}
use lib.Pointwise.{pointwise}
use lib.Seq.{drop-cons}
use Rattle.line.specs.Test.{same}

-- the test of two numbers, turned about
pub eqb_turned : (x y : ℕ) → eqb x y ≡ eqb y x
eqb_turned x y = go (eqb x y) (eqb y x) refl refl
  where
    go : (a b : Bool) → eqb x y ≡ a → eqb y x ≡ b → a ≡ b
    go true true e f = refl
    go false false e f = refl
    go true false e f = sym (eq-eqb y x (sym (eqb-true x y e))) ∙ f
    go false true e f = sym e ∙ eq-eqb x y (sym (eqb-true y x f))

-- the same lists are equal
pub same_equal : (xs ys : List ℕ) → same xs ys ≡ true → xs ≡ ys
unfolding same
same_equal [] [] e = refl
same_equal [] (y ∷ ys) e = cc
same_equal (x ∷ xs) [] e = cc
same_equal (x ∷ xs) (y ∷ ys) e =
    let (h, t) = (and-eq-true_iff (eqb x y) (same xs ys)).0 e in
    let head = eqb-true x y h in
    let tail = same_equal xs ys t in
    cc

-- a list is the same as itself
pub same_self : (xs : List ℕ) → same xs xs ≡ true
unfolding same
same_self [] = refl
same_self (x ∷ xs) = rw (eq-eqb x x refl, same_self xs)

-- lists of different lengths are not the same
pub same-lengths : (xs ys : List ℕ) → (length xs ≡ length ys → ⊥) → false ≡ same xs ys
same-lengths xs ys h = go (same xs ys) refl
  where
    go : (b : Bool) → same xs ys ≡ b → false ≡ b
    go true e = absurd (h (ap length (same_equal xs ys e)))
    go false e = refl

-- the test that two slices are equal, member by member
pub same-pointwise : (xs ys : List ℕ) → pointwise eqb xs ys ≡ same xs ys
unfolding same
same-pointwise [] [] = refl
same-pointwise [] (y ∷ ys) = refl
same-pointwise (x ∷ xs) [] = refl
same-pointwise (x ∷ xs) (y ∷ ys) = rw (same-pointwise xs ys)

-- a list is the same as two joined where its front is the first and the rest the second
pub same-append : (xs a b : List ℕ) → length a ≤ length xs → same xs (a ++ b) ≡ (same (take (length a) xs) a && same (drop (length a) xs) b)
unfolding same
same-append xs [] b h = refl
same-append [] (y ∷ a) b h = absurd (omega arith)
same-append (x ∷ xs) (y ∷ a) b h = rw (same-append xs a b (omega arith), and_assoc)

-- the first member alone
pub same_first : (xs : List ℕ) (c : ℕ) → 1 ≤ length xs → same (take 1 xs) (c ∷ []) ≡ eqb (get_or xs 0 0) c
unfolding same
same_first [] c h = absurd (omega arith)
same_first (x ∷ xs) c h = and-true (eqb x c)

-- the last member alone
pub same-last : (xs : List ℕ) (c : ℕ) → 1 ≤ length xs → same (drop (length xs - 1) xs) (c ∷ []) ≡ eqb (get_or xs (length xs - 1) 0) c
unfolding same
same-last xs c h =
    rw (drop-cons xs (length xs - 1) 0 (omega arith), drop_of_length-le xs {i = suc (length xs - 1)} (omega arith)) (and-true _)
