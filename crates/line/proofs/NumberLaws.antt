-- Laws of number and count: a writer answers those of the outcome that it owes, and one that is refused has put nothing out (demand 1).
use Rattle.std.specs.Prelude.{Result}
use mathlib.Core.List.{List}
use mathlib.Core.Path.{◌≡◌, refl, sym, ◌∙◌}
use Prim.Native.Nat.{ℕ}
use lib.ListN.{length}
use Rattle.line.specs.declared.answer.Refusal.{Refusal}
use Rattle.line.specs.Answer.{Outcome, done, refused, number_of, count_of, map_done, output, outcome_of, Laid, Wrote}
use Rattle.line.proofs.OverlayLaws.{overlay-none}

-- what is taken further keeps its number
pub map-number : {A B : Type 0} (f : A → B) (o : Outcome A) → number_of (map_done f o) ≡ number_of o
map-number f (done x) = refl
map-number f (refused n) = refl

-- the count of a list is the length of what is put out
pub map-count : {A : Type 0} (o : Outcome (List A)) → count_of (map_done length o) ≡ length (output o)
map-count (done xs) = refl
map-count (refused n) = refl

module _ {o : Outcome (List ℕ)} {r : Result ℕ Refusal} {before after : List ℕ} (w : Wrote o r before after) where
  -- a writer answers the outcome's number
  pub wrote-number : number_of (outcome_of r) ≡ number_of o
  wrote-number = rw w.answers (map-number length o)

  -- and counts what it puts out
  pub wrote_count : count_of (outcome_of r) ≡ length (output o)
  wrote_count = rw w.answers (map-count o)

  -- refused, it answers that number and a count of nought, and the memory is as it was before
  pub wrote_nothing : {n : ℕ} → o ≡ refused n → (number_of (outcome_of r) ≡ n) × (count_of (outcome_of r) ≡ 0) × (after ≡ before)
  wrote_nothing e = (wrote-number ∙ rw e, wrote_count ∙ rw e, w.leaves ∙ rw e (sym (overlay-none before)))

-- the count of a writer that was due to lay something is of what it has laid
pub laid-count : {o : Outcome (List ℕ)} {xs before after : List ℕ} {r : Result ℕ Refusal} {n : ℕ} → o ≡ done xs → Wrote o r before after → n ≡ count_of (outcome_of r) → Laid xs n before after
laid-count e w c = let v = rw e at w in record { counts = c ∙ wrote_count v; leaves = v.leaves }
