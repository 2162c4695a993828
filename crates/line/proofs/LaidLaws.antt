-- Laws of `Laid`: nothing, where it lies, one byte more, and bytes laid behind others by a writer that was lent the memory from their end on. And how it gives `Wrote`, and comes of it.
use mathlib.Core.List.{List, [], ◌∷◌, ◌++◌}
use mathlib.Core.Path.{◌≡◌, refl, sym, ap, ◌∙◌}
use Prim.Native.Nat.{ℕ, ◌+◌, ◌-◌, ◌≤◌, ◌<◌}
use native.Mathlib.Omega.{arith}
use lib.ListN.{length, take, drop, set, length-append, length-take, length-drop}
use lib.Seq.{take_all}
use Rattle.line.specs.Answer.{Outcome, done, overlay, outcome_of, Laid, Wrote}
use Rattle.line.specs.declared.answer.Refusal.{Refusal}
use Rattle.std.specs.Prelude.{Result, Ok, Err}
use Rattle.line.proofs.OverlayLaws.{overlay-none, overlay-length, overlay-start, overlay-snoc, overlay-part, wrote-done, refused_only}

-- nothing is laid
pub laid_none : (m : List ℕ) → Laid [] 0 m m
laid_none m = record { counts = refl; leaves = overlay-none m }

-- the memory keeps its length
pub laid-length : {xs m out : List ℕ} {n : ℕ} → Laid xs n m out → n ≤ length m → length out ≡ length m
laid-length {xs} {m} d h = ap length d.leaves ∙ overlay-length xs m (omega (arith, d.counts))

-- what is laid lies at the start
pub laid-start : {xs m out : List ℕ} {n : ℕ} → Laid xs n m out → take n out ≡ xs
laid-start {xs} {m} {n} d = rw d.leaves (overlay-start xs m n (sym d.counts))

-- and within the memory
pub laid-within : {xs m out : List ℕ} {n : ℕ} → Laid xs n m out → n ≤ length out
unfolding overlay
laid-within {xs} {m} d = rw (d.leaves, length-append) (omega (arith, d.counts))

-- one byte more, stored right behind
pub laid-snoc : {a m out : List ℕ} {n : ℕ} (k v : ℕ) → Laid a n m out → n < length m → k ≡ n + 1 → Laid (a ++ v ∷ []) k m (set out n v)
laid-snoc {a} {m} {n} k v d h e =
    record {
      counts = omega (arith, d.counts, length-append a (v ∷ []));
      leaves = rw d.leaves (overlay-snoc a m n v (sym d.counts) h);
    }

-- the memory from n on
pub part_length : (n : ℕ) (m : List ℕ) → length (take (length m - n) (drop n m)) ≡ length m - n
part_length n m = simp (length-take, length-drop) (omega arith)

-- a writer was lent the memory from the end of a on
pub laid-part : {a xs m out after : List ℕ} {n k : ℕ} → Laid a n m out → n + length xs ≤ length m → Laid xs k (take (length out - n) (drop n out)) after →
    Laid (a ++ xs) (n + k) m (take n out ++ (after ++ drop (length out - n) (drop n out)))
laid-part {a} {xs} {m} {out} {n} d h e =
    let long = laid-length d (omega arith) in
    let rest : take (length out - n) (drop n out) ≡ drop n out = take_all (length out - n) (drop n out) (omega (arith, length-drop n out)) in
    let laid = rw rest at e.leaves in
    record {
      counts = omega (arith, d.counts, e.counts, length-append a xs);
      leaves = rw (laid, long, d.leaves) (overlay-part a xs m n (length m - n) (sym d.counts) (omega (arith, d.counts)) refl);
    }

-- a writer that has laid what is due answers with its count
pub wrote-laid : {o : Outcome (List ℕ)} {xs m out : List ℕ} {n : ℕ} → o ≡ done xs → Laid xs n m out → Wrote o (Ok n) m out
wrote-laid {xs} e d = wrote-done xs _ _ _ e d.counts d.leaves

-- and one that was due to lay something is never refused, and its count is of what it has laid
module _ {o : Outcome (List ℕ)} {xs m out : List ℕ} {r : Result ℕ Refusal} (e : o ≡ done xs) (w : Wrote o r m out) where
  -- it is never refused
  pub laid-never : {q : Refusal} → r ≡ Err q → ⊥
  laid-never {q} c =
      let never = refused_only o q c w in
      let z : ◌≡◌ {A = ℕ} 0 1 = cc in
      omega arith

  -- it has laid what it counts
  pub laid-counted : {n : ℕ} → r ≡ Ok n → Laid xs n m out
  laid-counted c =
      let v = rw e at w in
      record { counts = cc (v.answers, ap outcome_of c); leaves = v.leaves }
