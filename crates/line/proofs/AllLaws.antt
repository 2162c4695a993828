-- Laws of `all`, the test of every member of a list: as a loop makes it, over an append, at a member, from one test to a weaker one, and over a map; and zeros.
use mathlib.Core.Bool.{Bool, true, false, ◌&&◌, false≢true, and_assoc, and-eq-true_iff, and-false, and-true}
use mathlib.Core.List.{List, [], ◌∷◌, ◌++◌, map}
use mathlib.Core.Path.{◌≡◌, refl, sym, ◌∙◌}
use Prim.Native.Nat.{ℕ, zero, suc, ◌+◌, ◌-◌, ◌≤◌, ◌<◌}
use native.Mathlib.Nat.{not-suc-le-zero, le_of_suc-le-suc}
use native.Mathlib.Numerals.{add-one}
use native.Mathlib.Omega.{arith}
use lib.Dec.{eqb}
use lib.ListN.{length, get_or, take, drop, replicate, drop_of_length-le, take-append-drop}
use lib.Seq.{drop-cons}
use borrow.Author.Tests.{eqb-true, ltb-false, lt-leb, lt-ltb}
use Rattle.line.specs.Test.{all}
use Rattle.line.specs.Character.{seven, alphanumeric, byte}
use mir.Syntax.{w8}
use mir.Val.{Fits}

-- a loop that folds the test of the members below i into one answer
module _ (p : ℕ → Bool) (xs : List ℕ) (i : ℕ) (ok : Bool) (rest : all p xs ≡ (ok && all p (drop i xs))) where
  -- the member at i is folded in
  pub all_folded : i < length xs → all p xs ≡ ((ok && p (get_or xs i 0)) && all p (drop (i + 1) xs))
  unfolding all
  all_folded h = rest ∙ rw (add-one, drop-cons xs i 0 h, and_assoc)

  -- none is left
  pub all-ended_folded : length xs ≤ i → ok ≡ all p xs
  unfolding all
  all-ended_folded h = sym (rest ∙ rw (drop_of_length-le xs h, and-true))

-- two lists joined pass where each does
pub all_append : (p : ℕ → Bool) (s t : List ℕ) → all p (s ++ t) ≡ (all p s && all p t)
unfolding all
all_append p [] t = refl
all_append p (x ∷ s) t = rw (all_append p s t, and_assoc)

-- what passes a test passes a weaker one
pub all_weaken : {p q : ℕ → Bool} → ((x : ℕ) → p x ≡ true → q x ≡ true) → (xs : List ℕ) → all p xs ≡ true → all q xs ≡ true
unfolding all
all_weaken w [] h = refl
all_weaken {p} w (x ∷ xs) h =
    let (a, b) = (and-eq-true_iff (p x) (all p xs)).0 h in
    rw (w x a, all_weaken w xs b)

-- the front of two lists joined passes where the whole does
pub all_front : (p : ℕ → Bool) (s t : List ℕ) → all p (s ++ t) ≡ true → all p s ≡ true
all_front p s t h = ((and-eq-true_iff (all p s) (all p t)).0 (rw all_append at h)).0

-- the first members pass where all do
pub all_take : (p : ℕ → Bool) (n : ℕ) (xs : List ℕ) → all p xs ≡ true → all p (take n xs) ≡ true
all_take p n xs h = all_front p (take n xs) (drop n xs) (rw (take-append-drop n xs) h)

-- where all pass, each passes
pub all-at : (p : ℕ → Bool) (xs : List ℕ) (i : ℕ) → all p xs ≡ true → i < length xs → p (get_or xs i 0) ≡ true
unfolding all
all-at p [] i e h = absurd (not-suc-le-zero h)
all-at p (x ∷ xs) zero e h = ((and-eq-true_iff (p x) (all p xs)).0 e).0
all-at p (x ∷ xs) (suc i) e h = all-at p xs i ((and-eq-true_iff (p x) (all p xs)).0 e).1 (le_of_suc-le-suc h)

-- a test that each member passes
pub all-each : (p : ℕ → Bool) (xs : List ℕ) → ((i : ℕ) → p (get_or xs i 0) ≡ true) → all p xs ≡ true
unfolding all
all-each p [] h = refl
all-each p (x ∷ xs) h = rw (h zero, all-each p xs (λ i. h (suc i)))

-- members that fit eight bits are bytes
pub all-bytes : (b : List ℕ) → ((i : ℕ) → Fits w8 (get_or b i 0)) → all byte b ≡ true
all-bytes b fits = all-each byte b (λ i. lt-ltb (get_or b i 0) 256 (omega (arith, fits i)))

-- where one fails, not all pass
pub all-fails : (p : ℕ → Bool) (xs : List ℕ) (i : ℕ) → p (get_or xs i 0) ≡ false → i < length xs → all p xs ≡ false
all-fails p xs i e h = go (all p xs) refl
  where
    go : (b : Bool) → all p xs ≡ b → all p xs ≡ false
    go true a = absurd (false≢true (sym e ∙ all-at p xs i a h))
    go false a = a

-- what passes each of two tests passes both
pub all_both : (p q : ℕ → Bool) (xs : List ℕ) → all p xs ≡ true → all q xs ≡ true → all (λ x. p x && q x) xs ≡ true
unfolding all
all_both p q [] a b = refl
all_both p q (x ∷ xs) a b =
    let (a₀, a₁) = (and-eq-true_iff (p x) (all p xs)).0 a in
    let (b₀, b₁) = (and-eq-true_iff (q x) (all q xs)).0 b in
    rw (a₀, b₀, all_both p q xs a₁ b₁)

-- a mapped list passes where each member passes as it is mapped
pub all_map : {p : ℕ → Bool} (q : ℕ → Bool) (f : ℕ → ℕ) → ((x : ℕ) → p x ≡ true → q (f x) ≡ true) → (xs : List ℕ) → all p xs ≡ true → all q (map f xs) ≡ true
unfolding all
all_map q f w [] h = refl
all_map {p} q f w (x ∷ xs) h =
    let (a, b) = (and-eq-true_iff (p x) (all p xs)).0 h in
    rw (w x a, all_map q f w xs b)

-- two maps one after the other give a list back where they give each member back
pub map_back : {p : ℕ → Bool} (f g : ℕ → ℕ) → ((x : ℕ) → p x ≡ true → g (f x) ≡ x) → (xs : List ℕ) → all p xs ≡ true → map g (map f xs) ≡ xs
unfolding all
map_back f g w [] h = refl
map_back {p} f g w (x ∷ xs) h =
    let (a, b) = (and-eq-true_iff (p x) (all p xs)).0 h in
    let head = w x a in
    let tail = map_back f g w xs b in
    cc

-- a letter or digit is a 7-bit value
pub alphanumeric-seven : (c : ℕ) → alphanumeric c ≡ true → seven c ≡ true
alphanumeric-seven c h = go (seven c) refl
  where
    go : (b : Bool) → seven c ≡ b → b ≡ true
    go true e = refl
    go false e =
        let far = ltb-false c 0x80 e in
        absurd (false≢true (simp (lt-leb c 0x39 (omega arith), lt-leb c 0x5A (omega arith), lt-leb c 0x7A (omega arith), and-false) at h))

-- ── Zeros ──

-- zeros, as many as there are
pub zeros : (xs : List ℕ) → all (λ b. eqb b 0) xs ≡ true → xs ≡ replicate (length xs) 0
unfolding all
zeros [] h = refl
zeros (x ∷ xs) h =
    let (first, rest) = (and-eq-true_iff (eqb x 0) (all (λ b. eqb b 0) xs)).0 h in
    rw (eqb-true x 0 first, ← zeros xs rest)

-- zeros are zeros
pub all-zeros : (n : ℕ) → all (λ b. eqb b 0) (replicate n 0) ≡ true
unfolding all
all-zeros zero = refl
all-zeros (suc n) = all-zeros n

-- what is left of zeros
pub zeros-drop : (n m : ℕ) → ◌≡◌ {A = List ℕ} (drop n (replicate m 0)) (replicate (m - n) 0)
zeros-drop zero m = let all : m - zero ≡ m = omega arith in rw all
zeros-drop (suc n) zero = let none : zero - suc n ≡ zero = omega arith in rw none
zeros-drop (suc n) (suc m) = let fewer : m - n ≡ suc m - suc n = omega arith in zeros-drop n m ∙ rw fewer
