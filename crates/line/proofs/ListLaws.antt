-- Laws of lists that a library could have: the start of one at most so long and what is behind it, one of no members, and a member of one turned round.
use mathlib.Core.Bool.{Bool, true, false}
use mathlib.Core.List.{List, [], ◌∷◌, ◌++◌, reverse, reverse-cons}
use mathlib.Core.Path.{◌≡◌, refl, sym, ◌∙◌}
use Prim.Native.Nat.{ℕ, zero, suc, ◌-◌, ◌≤◌, ◌<◌, min}
use native.Mathlib.Nat.{min-zero, suc-min-suc}
use native.Mathlib.Omega.{arith}
use borrow.Author.Tests.{ltb-true, ltb-false}
use lib.Dec.{ltb}
use lib.ListN.{length, get_or, take, drop, length-take, length-drop, length-reverse, get_or-append}
use lib.Seq.{drop-nil, get_or_at, take_all, take-take}

-- the start of a list, ended where the list ends
pub take_min : {A : Type 0} (n : ℕ) (xs : List A) → take (min n (length xs)) xs ≡ take n xs
take_min n xs = sym (take-take (min n (length xs)) n xs (omega arith)) ∙ take_all (min n (length xs)) (take n xs) (omega (arith, length-take n xs))

-- what is behind so many members, counted no further than they go
pub drop_min : {A : Type 0} (n : ℕ) (xs : List A) → drop (min (length xs) n) xs ≡ drop n xs
drop_min zero xs = rw (min-zero (length xs))
drop_min (suc n) [] = drop-nil (min 0 (suc n))
drop_min (suc n) (x ∷ xs) = rw suc-min-suc (drop_min n xs)

-- what is behind so many members, taken whole
pub rest_all : {A : Type 0} (n : ℕ) (xs : List A) → take (length xs - n) (drop n xs) ≡ drop n xs
rest_all n xs = take_all (length xs - n) (drop n xs) (omega (arith, length-drop n xs))

-- a list of no members
pub length_none : {A : Type 0} (xs : List A) → length xs ≡ 0 → xs ≡ []
length_none [] h = refl
length_none (x ∷ xs) h = absurd (omega arith)

-- a list turned round, at a place in it
pub get_d_reverse : {A : Type 0} (xs : List A) (i : ℕ) (d : A) → i < length xs → get_or (reverse xs) i d ≡ get_or xs (length xs - 1 - i) d
get_d_reverse [] i d h = absurd (omega arith)
get_d_reverse (x ∷ xs) i d h = rw (reverse-cons x xs) (go (ltb i (length xs)) refl (get_d_reverse xs i d))
  where
    go : (b : Bool) → ltb i (length xs) ≡ b → (i < length xs → get_or (reverse xs) i d ≡ get_or xs (length xs - 1 - i) d) → get_or (reverse xs ++ x ∷ []) i d ≡ get_or (x ∷ xs) (suc (length xs) - 1 - i) d
    go true e r =
        let k : i < length xs = ltb-true i (length xs) e in
        let place : suc (length xs) - 1 - i ≡ suc (length xs - 1 - i) = omega arith in
        get_or-append (reverse xs) (x ∷ []) d i (rw (length-reverse xs) k) ∙ r k ∙ rw place
    go false e r =
        let k : length xs ≤ i = ltb-false i (length xs) e in
        let place : suc (length xs) - 1 - i ≡ 0 = omega arith in
        get_or_at (reverse xs) x [] d i (length-reverse xs ∙ omega arith) ∙ rw place
