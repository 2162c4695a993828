-- Laws of a list that is flat-mapped: it grows by one member's at a time, has a bound by its length, and a loop lays it member by member.
use mathlib.Core.List.{List, [], ◌∷◌, ◌++◌, flat_map, append_assoc, append-nil}
use mathlib.Core.Path.{◌≡◌, refl}
use Prim.Native.Nat.{ℕ, ◌+◌, ◌-◌, ◌*◌, ◌≤◌, ◌<◌}
use native.Mathlib.Numerals.{add-one}
use native.Mathlib.Omega.{arith}
use borrow.Rule.Slice.PartMut.{put_mid}
use lib.ListN.{length, get_or, take, drop, length-append}
use lib.Seq.{take-suc}
use Rattle.line.specs.Answer.{Laid}
use Rattle.line.proofs.LaidLaws.{laid-length, laid-part}

module _ {A B : Type 0} (f : A → List B) where
  -- two lists joined
  pub flat_append : (xs ys : List A) → flat_map f (xs ++ ys) ≡ flat_map f xs ++ flat_map f ys
  unfolding flat_map
  flat_append [] ys = refl
  flat_append (x ∷ xs) ys = rw (flat_append xs ys, append_assoc)

  -- one member more
  pub flat_snoc : (xs : List A) (i : ℕ) (d : A) → i < length xs → flat_map f (take (i + 1) xs) ≡ flat_map f (take i xs) ++ f (get_or xs i d)
  unfolding flat_map
  flat_snoc xs i d h = rw (add-one, take-suc xs i d h, flat_append, append-nil)

  -- where each member gives at most k
  pub flat_bound : (k : ℕ) → ((x : A) → length (f x) ≤ k) → (xs : List A) → length (flat_map f xs) ≤ k * length xs
  unfolding flat_map
  flat_bound k h [] = omega arith
  flat_bound k h (x ∷ xs) = rw length-append (omega (arith, h x, flat_bound k h xs))

-- a loop lays what xs is flat-mapped to over the start of the memory m, member by member: after i turns the first i are there. One turn more, of at most k bytes
pub flat_turn : {A : Type 0} (f : A → List ℕ) (k : ℕ) (xs : List A) (d : A) (i : ℕ) {at r : ℕ} {m out after : List ℕ} →
    length (f (get_or xs i d)) ≤ k → i < length xs → at + k ≤ length m →
    Laid (flat_map f (take i xs)) at m out → Laid (f (get_or xs i d)) r (take (length out - at) (drop at out)) after →
    (r ≤ k) × (length (put_mid at (length out - at) out after) ≡ length m) × Laid (flat_map f (take (i + 1) xs)) (at + r) m (put_mid at (length out - at) out after)
flat_turn f k xs d i {at} {r} {m} h l room p q =
    let fits : at + r ≤ length m = omega (arith, q.counts) in
    let next = laid-part p (omega (arith, q.counts)) q in
    (omega (arith, q.counts), laid-length next fits, rw (flat_snoc f xs i d l) next)
