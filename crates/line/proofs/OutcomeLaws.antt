-- Laws of outcomes: what was done before one that is done, what was refused before one that is refused, and what holds of a choice.
use Rattle.std.specs.Prelude.{Result, Err, IsErrAnd, if◌then◌else◌}
use Rattle.std.proofs.lemmas.Result.{err_from_is_err_and}
use mathlib.Core.Bool.{Bool, true, false, not}
use mathlib.Core.List.{List}
use mathlib.Core.Path.{◌≡◌, refl, ap, ◌∙◌}
use Prim.Native.Nat.{ℕ}
use native.Mathlib.Omega.{arith}
use lib.ListN.{length}
use Rattle.line.specs.Answer.{Outcome, done, refused, refusal_number, outcome_of, map_done, and_then, output}
use Rattle.line.specs.declared.answer.Refusal.{Refusal}

-- a second call is done on what a first has made
pub then_done : {A B : Type 0} (o : Outcome A) (f : A → Outcome B) (y : B) → and_then o f ≡ done y → (x : A) × (o ≡ done x) × (f x ≡ done y)
then_done (done x) f y e = (x, refl, e)
then_done (refused n) f y e = let z : ◌≡◌ {A = ℕ} 0 1 = cc in absurd (omega arith)

-- what is taken further was made
pub map-done : {A B : Type 0} (f : A → B) (o : Outcome A) (y : B) → map_done f o ≡ done y → (x : A) × (o ≡ done x) × (f x ≡ y)
map-done f (done x) y e = (x, refl, cc)
map-done f (refused n) y e = let z : ◌≡◌ {A = ℕ} 0 1 = cc in absurd (omega arith)

-- what is counted was made
pub counted-made : {A : Type 0} (o : Outcome (List A)) (n : ℕ) → map_done length o ≡ done n → (o ≡ done (output o)) × (n ≡ length (output o))
counted-made o n e = let (x, made, long) = map-done length o n e in rw made (refl, cc)

-- what is taken further and refused was refused before
pub map-refused : {A B : Type 0} (f : A → B) (o : Outcome A) (n : ℕ) → map_done f o ≡ refused n → o ≡ refused n
map-refused f (done x) n e = cc
map-refused f (refused m) n e = cc

-- what is done has passed the test that refuses
pub passed : {A : Type 0} (s : Bool) (n : ℕ) (o : Outcome A) (x : A) → (if s then refused n else o) ≡ done x → (s ≡ false) × (o ≡ done x)
passed true n o x e = let z : ◌≡◌ {A = ℕ} 0 1 = cc in absurd (omega arith)
passed false n o x e = (refl, e)

-- the same where the test is to hold
pub met : {A : Type 0} (s : Bool) (n : ℕ) (o : Outcome A) (x : A) → (if s then o else refused n) ≡ done x → (s ≡ true) × (o ≡ done x)
met true n o x e = (refl, e)
met false n o x e = let z : ◌≡◌ {A = ℕ} 0 1 = cc in absurd (omega arith)

-- a choice by the opposite
pub choice-not : {A : Type 0} (b : Bool) (x y : A) → (if not b then x else y) ≡ (if b then y else x)
choice-not true x y = refl
choice-not false x y = refl

-- what holds of either branch of a choice, where its test is so, holds of the choice
pub choice : {A : Type 0} (P : A → Type 0) (b : Bool) {x y : A} → (b ≡ true → P x) → (b ≡ false → P y) → P (if b then x else y)
choice P true p q = p refl
choice P false p q = q refl

-- ── A refusal handed on with `?` ──

-- it is the same refusal
pub handed-on : {A : Type 0} (q : Refusal) (r : Result A Refusal) → IsErrAnd r (λ x. x ≡ q) → r ≡ Err q
handed-on q r h = let (x, e, same) = err_from_is_err_and r h in e ∙ ap (λ x. Err x) same

-- by its number too
pub handed-refusal : {A : Type 0} (q : Refusal) (r : Result A Refusal) → IsErrAnd r (λ x. x ≡ q) → outcome_of r ≡ refused (refusal_number q)
handed-refusal q r h = ap outcome_of (handed-on q r h)
