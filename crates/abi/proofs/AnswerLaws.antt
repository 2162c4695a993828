-- Laws of what a C caller gets: a writer's answer by number is the outcome's, and that of a buffer changed in place its length.
use Rattle.std.specs.Prelude.{Result, if◌then◌else◌}
use mathlib.Core.Bool.{Bool, true, false, ◌||◌}
use mathlib.Core.List.{List}
use mathlib.Core.Path.{◌≡◌, refl, sym, ap, ◌∙◌}
use Prim.Native.Nat.{ℕ}
use native.Mathlib.Omega.{arith}
use lib.Dec.{eqb}
use lib.ListN.{length}
use Rattle.line.proofs.OutcomeLaws.{map-done, map-refused, passed}
use Rattle.line.proofs.OverlayLaws.{overlay-whole}
use Rattle.line.specs.Answer.{Outcome, done, refused, map_done, outcome_of, Wrote}
use Rattle.line.specs.declared.answer.Refusal.{Refusal}
use Rattle.block.proofs.FrameLaws.{read_done}
use Rattle.line.specs.Character.{ETX, ETB, US}
use Rattle.block.specs.Block.{ending_in, inside, read_block, write_block}
use Rattle.block.specs.declared.frame.Ending.{Ending}
use Rattle.block.specs.declared.frame.Ending.TheVariants.{Etx, Etb, Us}
use Rattle.abi.specs.Text.{write_ended}
use Rattle.abi.specs.Answer.{answer_of, Puts}
use Rattle.abi.specs.declared.answer.Answer.{Answer}

-- what a writer owes is owed to a C caller too
pub puts : {o : Outcome (List ℕ)} {w : Result ℕ Refusal} {r : Answer} {before after : List ℕ} → Wrote o w before after → r ≡ answer_of (outcome_of w) → Puts o r before after
puts w e = record { answers = e ∙ ap answer_of w.answers; leaves = w.leaves }

-- a buffer that keeps its length is put whole
pub puts_whole : {made before after : List ℕ} → after ≡ made → length after ≡ length before → Puts (done made) (answer_of (done (length after))) before after
puts_whole {made} {before} e same =
    record { answers = ap (λ (l : List ℕ). answer_of (done (length l))) e; leaves = e ∙ overlay-whole made before (ap length (sym e) ∙ same) }

-- a string that reads has as much information as lies inside
pub read-answers : (s : List ℕ) (e : Ending) {part : List ℕ} → map_done (λ g. g.ending) (read_block s) ≡ done e → part ≡ inside s →
    answer_of (done (length part)) ≡ answer_of (map_done (λ g. length g.info) (read_block s))
read-answers s e read holds = let (g, made, _) = map-done _ (read_block s) e read in rw (made, holds, (read_done s g made).information) refl

-- one that does not is refused
pub unread_answers : (s : List ℕ) (n : ℕ) → map_done (λ g. g.ending) (read_block s) ≡ refused n →
    answer_of (refused n) ≡ answer_of (map_done (λ g. length g.info) (read_block s))
unread_answers s n unread = rw (map-refused _ (read_block s) n unread) refl

-- what is made of a record that is not out of range is what it numbers
pub numbered : {A : Type 0} (out : Bool) (n : ℕ) (x y : A) → done y ≡ (if out then refused n else done x) → (out ≡ false) × (y ≡ x)
numbered out n x y e = let (inside, same) = passed out n (done x) y (sym e) in (inside, cc same)

-- and a record that is refused is out of range
pub unnumbered : {A : Type 0} (out : Bool) (n k : ℕ) (x : A) → refused k ≡ (if out then refused n else done x) → (out ≡ true) × (k ≡ n)
unnumbered true n k x e = (refl, cc)
unnumbered false n k x e = let z : ◌≡◌ {A = ℕ} 0 1 = cc in absurd (omega arith)

-- a character that is an ending is written as that ending
pub ended : (info : List ℕ) (c room : ℕ) (e : Ending) → done e ≡ ending_in c → write_ended info c room ≡ write_block info e room
unfolding write_ended
ended info c room e = go (eqb c ETX) (eqb c ETB) (eqb c US)
  where
    go : (x b u : Bool) → done e ≡ (if x || b || u then done (if x then Etx else if b then Etb else Us) else refused 4) →
        (if x then write_block info Etx room else if b then write_block info Etb room else if u then write_block info Us room else refused 9) ≡ write_block info e room
    go true b u h = let same : Etx ≡ e = cc h in rw same
    go false true u h = let same : Etb ≡ e = cc h in rw same
    go false false true h = let same : Us ≡ e = cc h in rw same
    go false false false h = let z : ◌≡◌ {A = ℕ} 0 1 = cc in absurd (omega arith)

-- and any other is refused
pub unended : (info : List ℕ) (c room k : ℕ) → refused k ≡ ending_in c → write_ended info c room ≡ refused 9
unfolding write_ended
unended info c room k = go (eqb c ETX) (eqb c ETB) (eqb c US)
  where
    go : (x b u : Bool) → refused k ≡ (if x || b || u then done (if x then Etx else if b then Etb else Us) else refused 4) →
        (if x then write_block info Etx room else if b then write_block info Etb room else if u then write_block info Us room else refused 9) ≡ refused 9
    go true b u h = let z : ◌≡◌ {A = ℕ} 0 1 = cc in absurd (omega arith)
    go false true u h = let z : ◌≡◌ {A = ℕ} 0 1 = cc in absurd (omega arith)
    go false false true h = let z : ◌≡◌ {A = ℕ} 0 1 = cc in absurd (omega arith)
    go false false false h = refl
