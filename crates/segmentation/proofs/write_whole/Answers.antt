-- `write_whole` meets its contract: each return is the case of `write_segment` that the tests before it leave.
use Rattle.line.proofs.OutcomeLaws.{handed-on}
use Rattle.std.specs.Prelude.{if◌then◌else◌}
use mathlib.Core.Bool.{true}
use mathlib.Core.Path.{◌≡◌, sym, ◌∙◌}
use Prim.Native.Nat.{◌<◌}
use native.Mathlib.Omega.{arith}
use borrow.Author.Tests.{le-leb, lt-leb, lt-ltb, le-ltb}
use lib.Dec.{leb}
use lib.ListN.{length}
use Rattle.line.specs.Answer.{done, refused}
use Rattle.line.specs.Transaction.{legal}
use Rattle.line.proofs.LaidLaws.{wrote-laid}
use Rattle.line.proofs.OverlayLaws.{wrote-refused}
use Rattle.block.specs.Segments.{segment_block}
use Rattle.segmentation.specs.Segmentation.{cuttable, of_cuttable, segmentation_by, segment_at_by, write_segment}
use Rattle.segmentation.specs.declared.way.Way.TheVariants.{WholeFields}
use Rattle.segmentation.proofs.SegmentationByLaws.{by_fits, cuttable-done, cuttable-legal, cuttable-refused}
use Rattle.segmentation.proofs.write_whole.Goals as goal
use Rattle.segmentation.proofs.write_whole.Goals.{Else-out-lt-LONGEST, In_ok-check_cuttable, Else-count_segments-index}

-- behind the test of the output the transaction decides
passes : (c : Else-out-lt-LONGEST) →
    let a = c.args in
    write_segment WholeFields a.info.now a.index (length a.out.now) ≡
    of_cuttable WholeFields a.info.now (if leb (length (segmentation_by WholeFields a.info.now)) a.index then refused 9 else done (segment_block (segment_at_by WholeFields a.info.now a.index)))
unfolding write_segment
passes c = rw (le-ltb _ 256 c.if-out-lt-LONGEST.false)

-- it is legal, and can be cut so
good : (c : In_ok-check_cuttable) → let t = c.args.info.now in (legal t ≡ true) × (cuttable WholeFields t ≡ true)
good c = cuttable-done WholeFields c.args.info.now _ _ (sym c.in_ok-check_cuttable.ensures)

-- the index is that of a block
place : (c : Else-count_segments-index) → c.args.index < length (segmentation_by WholeFields c.args.info.now)
place c = rw c.count_segments.ensures at c.if-count_segments-index.false

pub returns-then-out-lt-LONGEST : goal.returns-then-out-lt-LONGEST
unfolding write_segment
returns-then-out-lt-LONGEST c = wrote-refused _ _ (rw (lt-ltb _ 256 c.if-out-lt-LONGEST.true))

pub put_segment-requires : goal.put_segment-requires
put_segment-requires c =
    let a = c.args in
    let at = goal.at.put_segment-requires c in
    let stands = place at.Else-count_segments-index in
    ((good at.In_ok-check_cuttable).0, stands, omega (arith, by_fits WholeFields a.info.now a.index stands, c.if-out-lt-LONGEST.false))

pub returns-in_err-check_cuttable : goal.returns-in_err-check_cuttable
returns-in_err-check_cuttable c =
    rw (handed-on _ _ c.from_residual.ensures.1) (wrote-refused _ _ (passes (goal.at.returns-in_err-check_cuttable c).Else-out-lt-LONGEST ∙ cuttable-refused WholeFields c.args.info.now _ _ _ (sym c.in_err-check_cuttable.ensures)))

pub returns-then-count_segments-index : goal.returns-then-count_segments-index
returns-then-count_segments-index c =
    let at = goal.at.returns-then-count_segments-index c in
    let (whole, cut) = good at.In_ok-check_cuttable in
    wrote-refused _ _ (passes at.Else-out-lt-LONGEST ∙ cuttable-legal WholeFields c.args.info.now _ whole cut ∙ rw (le-leb _ _ (rw c.count_segments.ensures at c.if-count_segments-index.true)))

pub returns : goal.returns
returns c =
    let at = goal.at.returns c in
    let (whole, cut) = good at.In_ok-check_cuttable in
    wrote-laid (passes at.Else-out-lt-LONGEST ∙ cuttable-legal WholeFields c.args.info.now _ whole cut ∙ rw (lt-leb _ _ (place at.Else-count_segments-index))) c.put_segment.ensures
