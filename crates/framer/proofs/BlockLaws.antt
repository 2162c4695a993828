-- Blocks and goodbyes are whole strings: information holds no ending, so that the first ending behind STX is the block's own.
use mathlib.Core.Bool.{Bool, true, false, not, ◌||◌, false≢true, and-eq-true_iff}
use mathlib.Core.List.{List, [], ◌∷◌, ◌++◌, map}
use mathlib.Core.Path.{◌≡◌, refl, sym, ap, ◌∙◌}
use Prim.Native.Nat.{ℕ, ◌+◌, ◌≤◌}
use native.Mathlib.Omega.{arith}
use borrow.Author.Tests.{eqb-true}
use lib.Count.{ones}
use lib.Dec.{eqb}
use lib.ListN.{length, length-map}
use Rattle.line.specs.Character.{STX, ETX, ETB, US, CR, EOT, textual}
use Rattle.line.specs.Parity.{with_parity, seven_bits}
use Rattle.line.specs.Test.{all, before_first}
use Rattle.line.proofs.AllLaws.{all_weaken}
use Rattle.line.proofs.ParityLaws.{all-without_with}
use Rattle.block.specs.Block.{ending_character, summed, block_of, right, agrees, ends}
use Rattle.block.specs.Checksum.{checksum, check_characters}
use Rattle.block.specs.declared.frame.Ending.{Ending}
use Rattle.block.specs.declared.frame.Ending.TheVariants.{Etx, Etb, Us}
use Rattle.block.proofs.FrameLaws.{block-length, block-frame, write_read, read_done}
use Rattle.framer.specs.Framing.{is_ending, size, Whole, goodbye}
use Rattle.line.proofs.FirstLaws.{first-behind, first-map}
use Rattle.framer.proofs.WholeLaws.{exact_whole}

-- a character of information is no ending
textual-inner : (c : ℕ) → textual c ≡ true → not (ends c) ≡ true
textual-inner c h = go (eqb c ETX) (eqb c ETB) (eqb c US) refl refl refl
  where
    go : (x b u : Bool) → eqb c ETX ≡ x → eqb c ETB ≡ b → eqb c US ≡ u → not (x || b || u) ≡ true
    go true b u e f g = absurd (false≢true (rw (eqb-true c ETX e) at h))
    go false true u e f g = absurd (false≢true (rw (eqb-true c ETB f) at h))
    go false false true e f g = absurd (false≢true (rw (eqb-true c US g) at h))
    go false false false e f g = refl

-- the character of an ending is one
ends-ending : (e : Ending) → ends (ending_character e) ≡ true
ends-ending Etx = refl
ends-ending Etb = refl
ends-ending Us = refl

-- bytes that are a block on their low seven bits are a whole string
pub seven-whole : (s info : List ℕ) (e : Ending) → map seven_bits s ≡ block_of info e → length info ≤ 250 → right info e ≡ true → Whole s
unfolding size before_first
seven-whole [] info e same short good = absurd (omega (arith, ap length same, block-length info e))
seven-whole (b ∷ bs) info e same short good =
    let tail = ending_character e ∷ check_characters (checksum (summed info e)) ++ CR ∷ [] in
    let whole : seven_bits b ∷ map seven_bits bs ≡ STX ∷ info ++ tail = same ∙ (block-frame info e).whole in
    let first : seven_bits b ≡ STX = cc in
    let rest : map seven_bits bs ≡ info ++ tail = cc in
    let inner = all_weaken textual-inner info ((and-eq-true_iff (all textual info) (agrees e info)).0 good).0 in
    let place : before_first is_ending bs ≡ length info + 0 = sym (first-map ends seven_bits bs) ∙ rw rest (first-behind ends info tail inner ∙ rw (ends-ending e)) in
    let count : length (b ∷ bs) ≡ length info + 6 = sym (length-map (b ∷ bs) seven_bits) ∙ ap length same ∙ block-length info e in
    exact_whole b bs (rw first) (rw (first, place) (omega arith))

-- a block as it goes on the line is a whole string
pub block-whole : (info : List ℕ) (e : Ending) → length info ≤ 250 → right info e ≡ true → Whole (map with_parity (block_of info e))
block-whole info e short good =
    let narrow = (read_done (block_of info e) _ (write_read info e short good)).tests.narrow in
    seven-whole (map with_parity (block_of info e)) info e (all-without_with (block_of info e) narrow) short good

-- bytes that are EOT CR on their low seven bits are one too
pub seven-bye : (s : List ℕ) → map seven_bits s ≡ EOT ∷ CR ∷ [] → Whole s
seven-bye [] e = let z : ◌≡◌ {A = ℕ} 0 1 = cc in absurd (omega arith)
seven-bye (a ∷ []) e = let z : ◌≡◌ {A = ℕ} 0 1 = cc in absurd (omega arith)
seven-bye (a ∷ b ∷ []) e = let first : seven_bits a ≡ EOT = cc in goodbye a b (rw first)
seven-bye (a ∷ b ∷ c ∷ s) e = let z : ◌≡◌ {A = ℕ} 0 1 = cc in absurd (omega arith)

-- and so is EOT CR as it goes on the line
pub bye-whole : Whole (map with_parity (EOT ∷ CR ∷ []))
unfolding ones
bye-whole = seven-bye (map with_parity (EOT ∷ CR ∷ [])) refl
