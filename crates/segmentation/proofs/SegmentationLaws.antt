-- Laws of the segmentation that fills each block: how many blocks it has, and which each of them is. All of them follow from the cut at 250.
use Rattle.std.specs.Prelude.{if◌then◌else◌}
use mathlib.Core.Bool.{Bool, true, false}
use mathlib.Core.List.{List, [], ◌∷◌}
use mathlib.Core.Path.{◌≡◌, refl, sym, ap, ◌∙◌}
use Prim.Native.Nat.{ℕ, zero, suc, ◌+◌, ◌*◌, ◌-◌, ◌≤◌, ◌<◌, min}
use native.Mathlib.Omega.{arith}
use borrow.Author.Tests.{leb-true, leb-false, eq-eqb, ne_eqb}
use lib.Dec.{eqb, leb}
use lib.ListN.{length, take, drop, length-take, length-drop}
use lib.Seq.{take_all, drop-drop}
use Rattle.block.specs.Segments.{segment, segment_block}
use Rattle.block.specs.declared.frame.Ending.TheVariants.{Etx}
use Rattle.block.proofs.FrameLaws.{block-length}
use Rattle.segmentation.specs.Segmentation.{inner_ending, segments_by, behind, filled, segmentation, block_count, segment_at}
use Rattle.segmentation.proofs.WayLaws.{Cuts, next_segment, way_at, way_short}

-- filling each block is a way of cutting
pub filled_cuts : Cuts filled
filled_cuts = record { some = λ t. omega arith; fits = λ t. omega arith; crowds = λ t end far. omega (arith, length-drop 250 t) }

-- ── How many blocks there are ──

-- the number of blocks of what is not empty
segments_count : (k : ℕ) (t : List ℕ) → 1 ≤ length t → length t ≤ k → length (segments_by filled k t) ≡ block_count (length t)
unfolding segments_by
segments_count zero t some h = absurd (omega arith)
segments_count (suc k) t some h = go (leb (length t) 250) refl (segments_count k (drop 250 t))
  where
    left : List ℕ
    left = drop 250 t

    go : (b : Bool) → leb (length t) 250 ≡ b → (1 ≤ length left → length left ≤ k → length (segments_by filled k left) ≡ block_count (length left)) →
        length (segments_by filled (suc k) t) ≡ block_count (length t)
    go true e further = rw e (omega (arith, leb-true (length t) 250 e))
    go false e further =
        let far = leb-false (length t) 250 e in
        let rest = length-drop 250 t in
        rw (e, further (omega arith) (omega arith), rest) (omega arith)

-- the number of blocks is the length divided by 250, rounded up
pub segmentation-count : (t : List ℕ) → length (segmentation t) ≡ block_count (length t)
unfolding segmentation segments_by
segmentation-count [] = refl
segmentation-count (c ∷ t) = segments_count (length (c ∷ t)) (c ∷ t) (omega arith) (omega arith)

-- ── Which segment is at which place ──

-- behind i blocks, 250 characters each are cut off
behind-filled : (i : ℕ) (t : List ℕ) → behind filled i t ≡ drop (250 * i) t
unfolding behind
behind-filled zero t = refl
behind-filled (suc i) t =
    let step : 250 * suc i ≡ 250 * i + 250 = omega arith in
    ap (drop 250) (behind-filled i t) ∙ drop-drop 250 (250 * i) t ∙ ap (λ n. drop n t) (sym step)

-- the i-th block holds the i-th piece of 250, and ends in ETX where it is the last
pub segment-at : (t : List ℕ) (i : ℕ) → i < length (segmentation t) →
    segment_at t i ≡ segment (take 250 (drop (250 * i) t)) (if eqb (i + 1) (length (segmentation t)) then Etx else inner_ending (take 250 (drop (250 * i) t)))
unfolding segmentation
segment-at t i h =
    let (some, at) = way_at filled_cuts i t h in
    at ∙ rw (behind-filled i t) (go (leb (length left) 250) refl (rw (behind-filled i t) at some))
  where
    left : List ℕ
    left = drop (250 * i) t

    go : (b : Bool) → leb (length left) 250 ≡ b → 1 ≤ length left →
        next_segment filled left ≡ segment (take 250 left) (if eqb (i + 1) (length (segmentation t)) then Etx else inner_ending (take 250 left))
    go true e some =
        let short = leb-true (length left) 250 e in
        let rest = length-drop (250 * i) t in
        rw (e, take_all 250 left short, eq-eqb (i + 1) (length (segmentation t)) (omega (arith, segmentation-count t)))
    go false e some =
        let far = leb-false (length left) 250 e in
        let rest = length-drop (250 * i) t in
        rw (e, ne_eqb (i + 1) (length (segmentation t)) (λ x. omega (arith, segmentation-count t)))

-- the i-th block is full, or has what is left
pub segment-length : (t : List ℕ) (i : ℕ) → i < length (segmentation t) → length (segment_at t i).info ≡ min 250 (length t - 250 * i)
segment-length t i h = rw (segment-at t i h, length-take, length-drop)

-- a block has at most 256 characters
pub segment-short : (t : List ℕ) (i : ℕ) → i < length (segmentation t) → length (segment_block (segment_at t i)) ≤ 256
unfolding segmentation
segment-short t i h = rw (block-length (segment_at t i).info (segment_at t i).ending) (way_short filled_cuts i t h)
