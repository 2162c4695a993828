-- Laws of segments: each of those that join is right for its ending, what their blocks are long, and what right information makes behind other characters.
use mathlib.Core.Bool.{true, false, and-eq-true_iff}
use mathlib.Core.List.{List, [], ◌∷◌, ◌++◌, flat_map}
use mathlib.Core.Path.{◌≡◌, refl, ◌∙◌}
use Prim.Native.Nat.{ℕ, zero, suc, ◌+◌, ◌*◌, ◌≤◌, ◌<◌}
use native.Mathlib.Nat.{not-suc-le-zero, le_of_suc-le-suc}
use native.Mathlib.Omega.{arith}
use borrow.Author.Tests.{le-leb}
use lib.ListN.{length, get_or, length-append}
use Rattle.line.specs.Character.{seven, textual}
use Rattle.line.specs.Test.{all}
use Rattle.line.specs.Transaction.{legal, ends_in_cr}
use Rattle.line.proofs.AllLaws.{all_append}
use Rattle.line.proofs.TransactionLaws.{ends_some, ends-joined}
use Rattle.block.specs.Block.{Segment, right, agrees}
use Rattle.block.specs.Segments.{segment, segment_block, blocks_of, continues, Joins, last, more}
use Rattle.block.specs.declared.frame.Ending.{Ending}
use Rattle.block.specs.declared.frame.Ending.TheVariants.{Etx, Etb, Us}
use Rattle.block.proofs.FrameLaws.{block-length, write_read, read_done}

-- ── Segments that join ──

-- there is one
pub joins-some : {ss : List Segment} {t : List ℕ} → Joins ss t → 1 ≤ length ss
joins-some (last fits good) = omega arith
joins-some (more fits good goes_on_lem r) = omega arith

module _ {ss : List Segment} {t : List ℕ} (joins : Joins ss t) (i : ℕ) (h : i < length ss) where
  -- the block at a place is short enough, and right for its ending
  pub joins_at : let g = get_or ss i (segment [] Etx) in (length g.info ≤ 250) × (right g.info g.ending ≡ true)
  joins_at = go joins i h
    where
      go : {ss : List Segment} {t : List ℕ} → Joins ss t → (i : ℕ) → i < length ss →
          let g = get_or ss i (segment [] Etx) in
          (length g.info ≤ 250) × (right g.info g.ending ≡ true)
      go (last fits good) zero h = (fits, good)
      go (last fits good) (suc i) h = absurd (not-suc-le-zero (le_of_suc-le-suc h))
      go (more fits good goes_on_lem r) zero h = (fits, good)
      go (more fits good goes_on_lem r) (suc i) h = go r i (le_of_suc-le-suc h)

  -- it has at most 256 characters
  pub joins-short : length (segment_block (get_or ss i (segment [] Etx))) ≤ 256
  joins-short =
      let g = get_or ss i (segment [] Etx) in
      rw (block-length g.info g.ending) (omega (arith, joins_at.0))

  -- and they are 7-bit values
  pub joins-seven : all seven (segment_block (get_or ss i (segment [] Etx))) ≡ true
  joins-seven = (read_done _ _ (write_read _ _ joins_at.0 joins_at.1)).tests.narrow

-- blocks have six characters each besides the information
pub blocks-length : (ss : List Segment) → length (blocks_of ss) ≡ length (flat_map (λ g. g.info) ss) + 6 * length ss
unfolding flat_map
blocks-length [] = refl
blocks-length (g ∷ ss) = omega (arith, length-append (segment_block g) (blocks_of ss), length-append g.info (flat_map (λ g. g.info) ss), block-length g.info g.ending, blocks-length ss)

-- ── Information behind other characters ──

-- information that its ending allows ends in CR before ETX
pub last-ends : (info : List ℕ) (e : Ending) → right info e ≡ true → continues e ≡ false → ends_in_cr info ≡ true
unfolding agrees
last-ends info Etx h l = ((and-eq-true_iff (all textual info) (ends_in_cr info)).0 h).1
last-ends info Etb h l = cc
last-ends info Us h l = cc

module _ (s info : List ℕ) (e : Ending) (before : all textual s ≡ true) (h : right info e ≡ true) where
  -- they are characters of a transaction together
  pub joined-textual : all textual (s ++ info) ≡ true
  joined-textual = all_append textual s info ∙ rw (before, ((and-eq-true_iff (all textual info) _).0 h).0)

  -- before ETX they are a legal transaction, where they are not too long
  pub joined-legal : continues e ≡ false → length (s ++ info) ≤ 2000 → legal (s ++ info) ≡ true
  joined-legal l n =
      let end : ends_in_cr (s ++ info) ≡ true = ends-joined s info (last-ends info e h l) in
      rw (le-leb 1 (length (s ++ info)) (ends_some (s ++ info) end), le-leb (length (s ++ info)) 2000 n, joined-textual, end)
