-- Memory with bytes laid over its start: the laws by which every writer's proof goes, and the two ways to have `Wrote`.
use mathlib.Core.List.{List, [], ◌∷◌, ◌++◌, map, append_assoc, append-nil}
use mathlib.Core.Path.{◌≡◌, refl, sym, ap, ◌∙◌}
use Prim.Native.Nat.{ℕ, zero, suc, ◌+◌, ◌-◌, ◌≤◌, ◌<◌}
use native.Mathlib.Nat.{add-zero, not-suc-le-zero, le_of_suc-le-suc}
use native.Mathlib.Numerals.{add-one}
use native.Mathlib.Omega.{arith}
use lib.ListN.{length, get_or, take, drop, set, take-append-drop, length-append, length-drop, length-map, drop_of_length-le}
use lib.Seq.{drop-cons, take_all, take-suc, set_at, take_at, drop_at, length-take-le, drop-drop, get_or-append-add, get_or-drop}
use Rattle.line.specs.Answer.{Outcome, done, refused, overlay, outcome_of, Wrote, refusal_number}
use Rattle.line.specs.declared.answer.Refusal.{Refusal}
use Rattle.std.specs.Prelude.{Result, Ok, Err}

-- nothing laid over
pub overlay-none : (m : List ℕ) → m ≡ overlay [] m
unfolding overlay
overlay-none m = refl

-- the memory keeps its length
pub overlay-length : (a m : List ℕ) → length a ≤ length m → length (overlay a m) ≡ length m
unfolding overlay
overlay-length a m h = simp (length-append, length-drop) (omega arith)

-- what is laid over the start lies there
pub overlay-start : (a m : List ℕ) (n : ℕ) → length a ≡ n → take n (overlay a m) ≡ a
unfolding overlay
overlay-start a m n e = take_at a (drop (length a) m) n e

-- what lies over the start of the memory in two parts: the second lies over the rest
pub overlay-append : (a b m : List ℕ) → overlay (a ++ b) m ≡ a ++ overlay b (drop (length a) m)
unfolding overlay
overlay-append a b m = rw (length-append a b, append_assoc, drop-drop)

-- a memory's own start laid over it changes nothing
pub overlay-own : (n : ℕ) (m : List ℕ) → n ≤ length m → m ≡ overlay (take n m) m
unfolding overlay
overlay-own n m h = rw (length-take-le n m h) (sym (take-append-drop n m))

-- one byte more, stored right behind
pub overlay-snoc : (a m : List ℕ) (n v : ℕ) → length a ≡ n → n < length m → set (overlay a m) n v ≡ overlay (a ++ v ∷ []) m
unfolding overlay
overlay-snoc a m n v e h =
    let l : length a < length m = rw e h in
    let s : length (a ++ v ∷ []) ≡ suc (length a) = length-append a (v ∷ []) ∙ add-one (length a) in
    rw (drop-cons m (length a) 0 l, set_at a (get_or m (length a) 0) (drop (suc (length a)) m) v n e, s, append_assoc)

-- a member of a list that is mapped
get_d_map : (f : ℕ → ℕ) (xs : List ℕ) (i : ℕ) → i < length xs → get_or (map f xs) i 0 ≡ f (get_or xs i 0)
get_d_map f [] i h = absurd (not-suc-le-zero h)
get_d_map f (x ∷ xs) zero h = refl
get_d_map f (x ∷ xs) (suc i) h = get_d_map f xs i (le_of_suc-le-suc h)

-- a loop maps xs over the start of the memory m, byte by byte: after i turns the first i are there
module _ (f : ℕ → ℕ) (xs m : List ℕ) (i : ℕ) (out : List ℕ) (laid : out ≡ overlay (take i (map f xs)) m) where
  -- one turn more
  pub laid_next : (v : ℕ) → v ≡ f (get_or xs i 0) → i < length xs → length xs ≤ length m → set out i v ≡ overlay (take (i + 1) (map f xs)) m
  laid_next v e h l =
      let k : i < length (map f xs) = rw (length-map xs f) h in
      rw (laid, add-one, take-suc (map f xs) i 0 k, e, ← get_d_map f xs i h)
      (overlay-snoc (take i (map f xs)) m i (get_or (map f xs) i 0) (length-take-le i (map f xs) (omega arith)) (omega arith))

  -- the bytes ahead are still the memory's
  pub laid_ahead : i ≤ length xs → get_or out i 0 ≡ get_or m i 0
  unfolding overlay
  laid_ahead h =
      let long : length (take i (map f xs)) ≡ i = length-take-le i (map f xs) (rw (length-map xs f) h) in
      let ahead = get_or-append-add (take i (map f xs)) (drop i m) 0 0 ∙ get_or-drop i m 0 0 in
      rw (laid, long) (simp add-zero at (rw long at ahead))

  -- after the last turn the whole list is there
  pub laid-whole : length xs ≤ i → out ≡ overlay (map f xs) m
  laid-whole h = laid ∙ rw (take_all i (map f xs) (rw (length-map xs f) h))

-- a list mapped by the identity
pub map_self : (xs : List ℕ) → map (λ x. x) xs ≡ xs
map_self [] = refl
map_self (x ∷ xs) = ap (λ l. x ∷ l) (map_self xs)

-- bytes as long as the memory lie over all of it
pub overlay-whole : (a m : List ℕ) → length a ≡ length m → a ≡ overlay a m
unfolding overlay
overlay-whole a m h =
    let none : length m ≤ length a = omega arith in
    rw (drop_of_length-le m none, append-nil)

-- a writer was lent the memory from the end of a on, and laid b over it
pub overlay-part : (a b m : List ℕ) (n k : ℕ) → length a ≡ n → length a + length b ≤ length m → k ≡ length m - n →
    take n (overlay a m) ++ (overlay b (drop n (overlay a m)) ++ drop k (drop n (overlay a m))) ≡ overlay (a ++ b) m
unfolding overlay
overlay-part a b m n k e h q =
    let d : List ℕ = drop (length a) m in
    let none : length d ≤ k = simp length-drop (omega arith) in
    rw (take_at a d n e, drop_at a d n e, drop_of_length-le d none, append-nil, drop-drop, length-append, append_assoc)

-- a refusal that leaves the memory alone
pub wrote-refused : {o : Outcome (List ℕ)} (r : Refusal) (m : List ℕ) → o ≡ refused (refusal_number r) → Wrote o (Err r) m m
wrote-refused r m e = record { answers = rw e; leaves = rw e (overlay-none m) }

-- the count of what was laid over the start
pub wrote-done : {o : Outcome (List ℕ)} (xs : List ℕ) (n : ℕ) (before after : List ℕ) → o ≡ done xs → n ≡ length xs → after ≡ overlay xs before → Wrote o (Ok n) before after
wrote-done xs n before after e c l = record { answers = rw (e, c) refl; leaves = rw e l }

-- the same of a text changed character by character
pub wrote_map : {o : Outcome (List ℕ)} (f : ℕ → ℕ) (xs before after : List ℕ) → after ≡ overlay (map f xs) before → o ≡ done (map f xs) → Wrote o (Ok (length xs)) before after
wrote_map f xs before after l e = wrote-done (map f xs) (length xs) before after e (sym (length-map xs f)) l

-- what a refused writer was asked is refused
pub refused_only : (o : Outcome (List ℕ)) {r : Result ℕ Refusal} {before after : List ℕ} (q : Refusal) → r ≡ Err q → Wrote o r before after → o ≡ refused (refusal_number q)
refused_only (done xs) q e w = cc (w.answers, ap outcome_of e)
refused_only (refused n) q e w = cc (w.answers, ap outcome_of e)

-- what a writer counted lies at the start of the memory
pub counted_start : (o : Outcome (List ℕ)) {r : Result ℕ Refusal} {before after : List ℕ} (n : ℕ) → r ≡ Ok n → Wrote o r before after → (n ≤ length after) × (o ≡ done (take n after))
unfolding overlay
counted_start (done xs) {after} n e w =
    let counts : length xs ≡ n = cc (w.answers, ap outcome_of e) in
    (rw (w.leaves, length-append) (omega arith), ap done (sym (rw w.leaves (overlay-start xs _ n counts))))
counted_start (refused m) n e w =
    let never : ◌≡◌ {A = ℕ} 0 1 = cc (w.answers, ap outcome_of e) in
    absurd (omega arith)
