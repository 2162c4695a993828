-- Laws of the segmentation in either way, proved once over the way: it is a legal one, it goes on block by block, each block is right and short, and there are at most 15,
-- so that 2,090 bytes hold them all.
use Rattle.std.specs.Prelude.{if◌then◌else◌}
use mathlib.Core.Bool.{Bool, true, false, not, ◌&&◌}
use mathlib.Core.List.{List, [], ◌∷◌, ◌++◌, flat_map}
use mathlib.Core.Path.{◌≡◌, refl, ◌∙◌}
use Prim.Native.Nat.{ℕ, ◌+◌, ◌-◌, ◌*◌, ◌≤◌, ◌<◌, min}
use native.Mathlib.Numerals.{add-one}
use native.Mathlib.Omega.{arith}
use borrow.Author.Tests.{le-ltb, lt-leb, eq-eqb, ne_eqb, eqb-true, eqb-false}
use lib.Dec.{eqb, leb}
use lib.ListN.{length, take, drop, length-drop, length-append}
use lib.Seq.{drop-drop, get_or_at}
use Rattle.line.specs.Answer.{Outcome, done, refused}
use Rattle.line.specs.Character.{seven, textual}
use Rattle.line.specs.Test.{all}
use Rattle.line.specs.Transaction.{Transaction, ends_in_cr, legal, of_transaction}
use Rattle.line.proofs.FlatLaws.{flat_append}
use Rattle.line.proofs.ListLaws.{drop_min, rest_all}
use Rattle.line.proofs.OutcomeLaws.{met}
use Rattle.line.proofs.TransactionLaws.{legal-parts, legal-transaction, of_done, of_legal}
use Rattle.block.specs.Block.{Segment, right}
use Rattle.block.specs.Segments.{segment, segment_block, blocks_of, Joins, LegalSegmentation}
use Rattle.block.specs.declared.frame.Ending.TheVariants.{Etx}
use Rattle.block.proofs.FrameLaws.{block-length}
use Rattle.block.proofs.SegmentsLaws.{joins_at, blocks-length}
use Rattle.segmentation.specs.Segmentation.{ending_of, segments_by, behind, cut_by, segmentation, segment_at, segmentation_by, segment_at_by, cuttable, of_cuttable, room_for, write_segment}
use Rattle.segmentation.specs.declared.way.Way.{Way}
use Rattle.segmentation.specs.declared.way.Way.TheVariants.{Filled, WholeFields}
use Rattle.segmentation.proofs.SegmentationLaws.{filled_cuts}
use Rattle.segmentation.proofs.WayLaws.{Cuts, crowded_few, next-is, way_next, way_at, way_short, way_whole, way_legal, way_crowded}
use Rattle.segmentation.proofs.WholeFieldsLaws.{whole_cuts}

-- each is a way of cutting
pub cuts_by : (way : Way) → Cuts (cut_by way)
cuts_by Filled = filled_cuts
cuts_by WholeFields = whole_cuts

-- the one that fills each block
pub by_filled : (t : List ℕ) → segmentation_by Filled t ≡ segmentation t
unfolding segmentation_by segmentation
by_filled t = refl

-- so many characters from a place on, with the ending that they get
abbrev pub piece_from : List ℕ → ℕ → ℕ → Segment
piece_from t from n = let info = take (from + n - from) (drop from t) in segment info (ending_of (eqb (from + n) (length t)) info)

-- the same of what is left there
piece_from_lem : (t : List ℕ) (from n : ℕ) → from ≤ length t → piece_from t from n ≡ segment (take n (drop from t)) (ending_of (eqb n (length (drop from t))) (take n (drop from t)))
piece_from_lem t from n inside =
    let part : from + n - from ≡ n = omega arith in
    rw (part, ends (eqb n (length (drop from t))) refl)
  where
    ends : (b : Bool) → eqb n (length (drop from t)) ≡ b → eqb (from + n) (length t) ≡ eqb n (length (drop from t))
    ends true e = rw e (eq-eqb (from + n) (length t) (omega (arith, eqb-true n _ e, length-drop from t)))
    ends false e = rw e (ne_eqb (from + n) (length t) (λ q. eqb-false n _ e (omega (arith, length-drop from t))))

-- ── What a way can cut ──

module _ (way : Way) (t : List ℕ) where
  -- it is a transaction, and no field is too long
  pub cuttable-done : {A : Type 0} (o : Outcome A) (x : A) → of_cuttable way t o ≡ done x → (legal t ≡ true) × (cuttable way t ≡ true)
  cuttable-done o x h =
      let (good, cut) = of_done t _ x h in
      (good, (met (cuttable way t) 2 o x cut).0)

  -- and then it is not refused
  pub cuttable-legal : {A : Type 0} (o : Outcome A) → legal t ≡ true → cuttable way t ≡ true → of_cuttable way t o ≡ o
  cuttable-legal o good cut = of_legal t _ good ∙ rw cut

  -- information that is refused is refused whatever is done with it
  pub cuttable-refused : {A B : Type 0} (x : A) (k : ℕ) (o : Outcome B) → of_cuttable way t (done x) ≡ refused k → of_cuttable way t o ≡ refused k
  unfolding of_transaction
  cuttable-refused {A} {B} x k o = go (leb 1 (length t) && leb (length t) 2000) (all seven t) (all textual t && ends_in_cr t) (cuttable way t)
    where
      go : (n s e c : Bool) → (if not n then refused 2 else if not s then refused 3 else if not e then refused 6 else if c then done x else refused 2) ≡ refused k →
          (if not n then refused 2 else if not s then refused 3 else if not e then refused 6 else if c then o else refused 2) ≡ refused k
      go true true true true h = cc
      go true true true false h = cc
      go true true false c h = cc
      go true false e c h = cc
      go false s e c h = cc

module _ (way : Way) where
  -- the segmentation of a transaction is a legal one
  pub by_legal : (t : List ℕ) → Transaction t → LegalSegmentation (segmentation_by way t) t
  unfolding segmentation_by
  by_legal t r = way_legal (cuts_by way) t r

  -- ── Block by block ──

  -- nothing has no blocks
  pub by_none : (t : List ℕ) → length t ≡ 0 → length (segmentation_by way t) ≡ 0
  unfolding segmentation_by segments_by
  by_none [] e = refl
  by_none (c ∷ t) e = absurd (omega arith)

  -- the next block from a place on takes so many characters
  module _ (t : List ℕ) (from n : ℕ) (inside : from ≤ length t) (takes : let rest = take (length t - from) (drop from t) in n ≡ min (length rest) (cut_by way rest)) where
    -- counted of what is left
    counted : n ≡ min (length (drop from t)) (cut_by way (drop from t))
    counted = rw (rest_all from t) at takes

    -- they are there
    pub turn_inside : from + n ≤ length t
    turn_inside = omega (arith, counted, length-drop from t)

    -- where something is left, there is one of them, and the rest is cut the same way
    pub turn_next : from < length t → (1 ≤ n) × (segmentation_by way (drop from t) ≡ piece_from t from n ∷ segmentation_by way (drop (from + n) t))
    unfolding segmentation_by
    turn_next h =
        let rest = drop from t in
        let some : 1 ≤ length rest = omega (arith, length-drop from t) in (
          omega (arith, counted, (cuts_by way).some rest),
          way_next (cuts_by way) rest some ∙ rw (next-is (cut_by way) rest n counted, ← piece_from_lem t from n inside, ← drop-drop n from t, counted, drop_min (cut_by way rest) rest),
        )

    -- behind i blocks
    module _ (i : ℕ) (here : drop from t ≡ behind (cut_by way) i t) where
      -- what is left behind one more
      pub turn_behind : drop (from + n) t ≡ behind (cut_by way) (i + 1) t
      unfolding behind
      turn_behind =
          let rest = drop from t in
          rw (add-one, ← here, ← drop-drop n from t, counted) (drop_min (cut_by way rest) rest)

      -- they are the i-th segment
      pub turn_at : i < length (segmentation_by way t) → segment_at_by way t i ≡ piece_from t from n
      unfolding segmentation_by
      turn_at h =
          let rest = drop from t in
          (way_at (cuts_by way) i t h).1 ∙ rw (← here) (next-is (cut_by way) rest n counted ∙ rw (← piece_from_lem t from n inside))

  -- each block has at most 256 characters
  pub by_fits : (t : List ℕ) (i : ℕ) → i < length (segmentation_by way t) → length (segment_at_by way t i).info + 6 ≤ 256
  unfolding segmentation_by
  by_fits t i h = way_short (cuts_by way) i t h

  -- ── The blocks of a legal transaction ──

  module _ (t : List ℕ) (good : legal t ≡ true) where
    -- they join to it again
    pub by_joins : Joins (segmentation_by way t) t
    by_joins = (by_legal t (legal-transaction t good)).joins

    -- each is right for its ending, and those before it leave room for it
    pub by_within : (before gs : List Segment) (g : Segment) → segmentation_by way t ≡ before ++ g ∷ gs →
        (length g.info ≤ 250) × (right g.info g.ending ≡ true) × (length (blocks_of before) + (length g.info + 6) ≤ length (blocks_of (segmentation_by way t)))
    unfolding flat_map
    by_within before gs g whole =
        let place : length before < length (segmentation_by way t) = rw (whole, length-append) (omega arith) in
        let (short, good) = rw (whole, get_or_at before g gs (segment [] Etx) (length before) refl) at (joins_at by_joins (length before) place) in
        let sizes = length-append (blocks_of before) (segment_block g ++ blocks_of gs) in
        let sizes' = length-append (segment_block g) (blocks_of gs) in
        (short, good, rw (whole, flat_append segment_block before (g ∷ gs)) (omega (arith, block-length g.info g.ending)))

    -- six characters each besides the information
    by_length : length (blocks_of (segmentation_by way t)) ≡ length t + 6 * length (segmentation_by way t)
    unfolding segmentation_by
    by_length = blocks-length (segmentation_by way t) ∙ rw (way_whole (cuts_by way) (length t) t (omega arith))

    -- at most 15, since two neighbours hold more than 250 characters together
    pub by_few : length (segmentation_by way t) ≤ 15
    unfolding segmentation_by
    by_few =
        let (_, _, end) = legal-parts t good in
        let short = (legal-transaction t good).within in
        let few = rw (way_whole (cuts_by way) (length t) t (omega arith)) at (crowded_few (segmentation_by way t) (way_crowded (cuts_by way) (length t) t (omega arith) end)) in
        omega arith

    -- so that 2,090 bytes hold them all
    pub by_room : length (blocks_of (segmentation_by way t)) ≤ 2090
    by_room =
        let short = (legal-transaction t good).within in
        omega (arith, by_length, by_few)

-- the room that a way asks for holds all blocks
pub room-holds : (way : Way) (t : List ℕ) → legal t ≡ true → (room : ℕ) → room_for way t ≤ room → length (blocks_of (segmentation_by way t)) ≤ room
room-holds Filled t good room h = rw (by_length Filled t good, by_filled t) h
room-holds WholeFields t good room h = omega (arith, by_room WholeFields t good)

-- ── The i-th block ──

-- of a transaction that the way can cut, it is written to memory of 256 bytes
pub by_written : (way : Way) (t : List ℕ) (i : ℕ) → legal t ≡ true → cuttable way t ≡ true → i < length (segmentation_by way t) →
    write_segment way t i 256 ≡ done (segment_block (segment_at_by way t i))
unfolding write_segment
by_written Filled t i good cut h =
    let there = rw (by_filled t) at h in
    let short = rw (by_filled t) at (by_fits Filled t i h) in
    rw (by_filled t, lt-leb (length (segmentation t)) i there, le-ltb 256 (length (segment_at t i).info + 6) short, of_legal t _ good)
by_written WholeFields t i good cut h = cuttable-legal WholeFields t _ good cut ∙ rw (lt-leb (length (segmentation_by WholeFields t)) i h)
