-- Laws of `before_first`, the place of the first byte that passes a test: as a loop looks for it, that it lies within the bytes, what stands there and before it, over an append, in a part, and over a map.
use Rattle.std.specs.Prelude.{if◌then◌else◌}
use mathlib.Core.Bool.{Bool, true, false, not, false≢true}
use mathlib.Core.List.{List, [], ◌∷◌, ◌++◌, map}
use mathlib.Core.Path.{◌≡◌, refl, ap, ◌∙◌}
use Prim.Native.Nat.{ℕ, zero, suc, ◌+◌, ◌≤◌, ◌<◌, min}
use native.Mathlib.Numerals.{add-one}
use native.Mathlib.Omega.{arith}
use lib.Dec.{leb}
use lib.ListN.{length, get_or, take, drop, drop_of_length-le, take-append-drop}
use lib.Seq.{drop-cons, take-length, length-take-le, take-take, get_or-take}
use borrow.Author.Tests.{le-leb, leb-true, leb-false}
use Rattle.line.specs.Test.{all, before_first}
use Rattle.line.proofs.AllLaws.{all_take, all-fails}

-- a loop that looks for the first: it stands here, or further on, or nowhere
module _ (p : ℕ → Bool) (xs : List ℕ) (i : ℕ) where
  -- the byte at i passes
  pub first-here : p (get_or xs i 0) ≡ true → i < length xs → before_first p (drop i xs) ≡ 0
  unfolding before_first
  first-here e h = rw (drop-cons xs i 0 h, e)

  -- the byte at i does not
  pub first-further : p (get_or xs i 0) ≡ false → i < length xs → i + before_first p (drop i xs) ≡ i + 1 + before_first p (drop (i + 1) xs)
  unfolding before_first
  first-further e h =
      let step : before_first p (drop i xs) ≡ suc (before_first p (drop (i + 1) xs)) = rw (add-one, drop-cons xs i 0 h, e) in
      omega arith

  -- none is left
  pub first-none : length xs ≤ i → before_first p (drop i xs) ≡ 0
  unfolding before_first
  first-none h = rw (drop_of_length-le xs h)

-- the place by the test of the first byte: what holds of 0 where it passes, and of one more than the place behind it where not
next : (p : ℕ → Bool) (b : ℕ) (bs : List ℕ) (P : ℕ → Type 0) → (p b ≡ true → P 0) → (p b ≡ false → P (suc (before_first p bs))) → P (before_first p (b ∷ bs))
unfolding before_first
next p b bs P here further = go (p b) refl
  where
    go : (t : Bool) → p b ≡ t → P (if t then 0 else suc (before_first p bs))
    go true e = here e
    go false e = further e

module _ (p : ℕ → Bool) where
  -- the place lies within the bytes, or at their end
  pub first-within : (xs : List ℕ) → before_first p xs ≤ length xs
  unfolding before_first
  first-within [] = omega arith
  first-within (b ∷ bs) =
      let rest = first-within bs in
      next p b bs (λ n. n ≤ length (b ∷ bs)) (λ _. omega arith) (λ _. omega arith)

  -- where the place is before the end, the byte there passes
  pub first_passes : (xs : List ℕ) → before_first p xs < length xs → p (get_or xs (before_first p xs) 0) ≡ true
  unfolding before_first
  first_passes [] h = absurd (omega arith)
  first_passes (b ∷ bs) h = next p b bs (λ n. n < length (b ∷ bs) → p (get_or (b ∷ bs) n 0) ≡ true) (λ e h. e) (λ e h. first_passes bs (omega arith)) h

  -- no byte before the place passes
  pub first-before : (xs : List ℕ) → all (λ b. not (p b)) (take (before_first p xs) xs) ≡ true
  unfolding before_first all
  first-before [] = refl
  first-before (b ∷ bs) = next p b bs (λ n. all (λ b. not (p b)) (take n (b ∷ bs)) ≡ true) (λ e. refl) (λ e. rw e (first-before bs))

  -- where the place is the end, none passes
  pub first_absent : (xs : List ℕ) → before_first p xs ≡ length xs → all (λ b. not (p b)) xs ≡ true
  first_absent xs e = rw (e, take-length) at (first-before xs)

  -- behind bytes of which none passes, the place is further on by as many
  pub first-behind : (xs ys : List ℕ) → all (λ b. not (p b)) xs ≡ true → before_first p (xs ++ ys) ≡ length xs + before_first p ys
  unfolding all
  first-behind [] ys h = omega arith
  first-behind (b ∷ bs) ys h = next p b (bs ++ ys) (λ n. n ≡ length (b ∷ bs) + before_first p ys) (λ e. absurd (false≢true (rw e at h))) λ e.
      let further = first-behind bs ys (rw e at h) in
      omega arith

  -- what stands behind does not move the place of the first
  pub first-kept : (xs ys : List ℕ) → before_first p xs < length xs → before_first p (xs ++ ys) ≡ before_first p xs
  unfolding before_first
  first-kept [] ys h = absurd (omega arith)
  first-kept (b ∷ bs) ys h = go (p b) (first-kept bs ys) h
    where
      go : (t : Bool) → (before_first p bs < length bs → before_first p (bs ++ ys) ≡ before_first p bs) → (if t then 0 else suc (before_first p bs)) < length (b ∷ bs) →
          (if t then 0 else suc (before_first p (bs ++ ys))) ≡ (if t then 0 else suc (before_first p bs))
      go true rest h = refl
      go false rest h = ap suc (rest (omega arith))

  -- nor does it bring the place forward where there was none
  pub first_least : (xs ys : List ℕ) → before_first p xs ≤ before_first p (xs ++ ys)
  unfolding before_first
  first_least [] ys = omega arith
  first_least (b ∷ bs) ys = go (p b) (first_least bs ys)
    where
      go : (t : Bool) → before_first p bs ≤ before_first p (bs ++ ys) → (if t then 0 else suc (before_first p bs)) ≤ (if t then 0 else suc (before_first p (bs ++ ys)))
      go true h = omega arith
      go false h = omega arith

  -- none of the first m passes exactly if the place is not before m
  pub first-all : (m : ℕ) (xs : List ℕ) → m ≤ length xs → all (λ b. not (p b)) (take m xs) ≡ leb m (before_first p xs)
  first-all m xs h = go (leb m (before_first p xs)) refl
    where
      go : (t : Bool) → leb m (before_first p xs) ≡ t → all (λ b. not (p b)) (take m xs) ≡ t
      go true e = rw (take-take m (before_first p xs) xs (leb-true m (before_first p xs) e)) at (all_take (λ b. not (p b)) m (take (before_first p xs) xs) (first-before xs))
      go false e =
          let k = before_first p xs in
          let before = leb-false m k e in
          let size = length-take-le m xs h in
          all-fails (λ b. not (p b)) (take m xs) k (rw (get_or-take m xs k 0 before, first_passes xs (omega arith))) (omega arith)

  -- behind a part in which none passes
  pub first_from : (j : ℕ) (xs : List ℕ) → j ≤ before_first p xs → before_first p xs ≡ j + before_first p (drop j xs)
  first_from j xs h =
      let within : j ≤ length xs = omega (arith, first-within xs) in
      let none : all (λ b. not (p b)) (take j xs) ≡ true = first-all j xs within ∙ le-leb j (before_first p xs) h in
      rw (take-append-drop j xs, length-take-le j xs within) at (first-behind (take j xs) (drop j xs) none)

  -- in a part from the start on
  pub first-take : (m : ℕ) (xs : List ℕ) → before_first p (take m xs) ≡ min m (before_first p xs)
  unfolding before_first
  first-take zero xs = omega arith
  first-take (suc m) [] = omega arith
  first-take (suc m) (b ∷ bs) = go (p b) (first-take m bs)
    where
      go : (t : Bool) → before_first p (take m bs) ≡ min m (before_first p bs) → (if t then 0 else suc (before_first p (take m bs))) ≡ min (suc m) (if t then 0 else suc (before_first p bs))
      go true e = omega arith
      go false e = omega arith

-- among bytes that are changed one by one
pub first-map : (p : ℕ → Bool) (f : ℕ → ℕ) (xs : List ℕ) → before_first p (map f xs) ≡ before_first (λ x. p (f x)) xs
unfolding before_first
first-map p f [] = refl
first-map p f (x ∷ xs) = rw (first-map p f xs)
