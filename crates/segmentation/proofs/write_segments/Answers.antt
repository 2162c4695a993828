-- `write_segments` meets its contract: each return is the case of `write_segments` that the tests before it leave, and the room that a way asks for holds all its blocks.
use Rattle.line.proofs.OutcomeLaws.{handed-on}
use mathlib.Core.Bool.{true}
use mathlib.Core.Path.{◌≡◌, sym, ◌∙◌}
use borrow.Author.Tests.{lt-ltb, le-ltb}
use lib.ListN.{length}
use Rattle.line.specs.Answer.{done}
use Rattle.line.specs.Transaction.{legal}
use Rattle.line.proofs.LaidLaws.{wrote-laid}
use Rattle.line.proofs.OverlayLaws.{wrote-refused}
use Rattle.block.specs.Segments.{blocks_of}
use Rattle.segmentation.specs.Segmentation.{cuttable, of_cuttable, segmentation_by, write_segments}
use Rattle.segmentation.proofs.SegmentationByLaws.{cuttable-done, cuttable-legal, cuttable-refused, room-holds}
use Rattle.segmentation.proofs.write_segments.Goals as goal
use Rattle.segmentation.proofs.write_segments.Goals.{Else-out-room_for, In_ok-check_cuttable}

-- the output has room for the blocks, so they are written where the way can cut the information
passes : (c : Else-out-room_for) →
    let a = c.args in
    write_segments a.way a.info.now (length a.out.now) ≡ of_cuttable a.way a.info.now (done (blocks_of (segmentation_by a.way a.info.now)))
unfolding write_segments
passes c = rw (le-ltb _ _ (rw c.room_for.ensures at c.if-out-room_for.false))

-- it can
good : (c : In_ok-check_cuttable) →
    let a = c.args in
    (legal a.info.now ≡ true) × (cuttable a.way a.info.now ≡ true)
good c = cuttable-done c.args.way c.args.info.now _ _ (sym c.in_ok-check_cuttable.ensures)

pub returns-then-out-room_for : goal.returns-then-out-room_for
unfolding write_segments
returns-then-out-room_for c = wrote-refused _ _ (rw (lt-ltb _ _ (rw c.room_for.ensures at c.if-out-room_for.true)))

pub put_segments-requires : goal.put_segments-requires
put_segments-requires c =
    let a = c.args in
    let (whole, _) = good (goal.at.put_segments-requires c).In_ok-check_cuttable in
    (whole, room-holds a.way a.info.now whole _ (rw c.room_for.ensures at c.if-out-room_for.false))

pub returns-in_err-check_cuttable : goal.returns-in_err-check_cuttable
returns-in_err-check_cuttable c =
    let a = c.args in
    rw (handed-on _ _ c.from_residual.ensures.1) (wrote-refused _ _ (passes (goal.at.returns-in_err-check_cuttable c).Else-out-room_for ∙ cuttable-refused a.way a.info.now _ _ _ (sym c.in_err-check_cuttable.ensures)))

pub returns : goal.returns
returns c =
    let a = c.args in
    let at = goal.at.returns c in
    let (whole, cut) = good at.In_ok-check_cuttable in
    wrote-laid (passes at.Else-out-room_for ∙ cuttable-legal a.way a.info.now _ whole cut) c.put_segments.ensures
