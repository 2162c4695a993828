-- `write_filled` meets its contract: each return is the case of `write_segment` that the tests before it leave.
use Rattle.line.proofs.OutcomeLaws.{handed-on}
use mathlib.Core.Path.{◌≡◌, sym, ◌∙◌}
use Prim.Native.Nat.{◌+◌, ◌≤◌, ◌<◌}
use borrow.Author.Tests.{le-leb, lt-leb, lt-ltb, le-ltb}
use lib.ListN.{length}
use Rattle.line.specs.Answer.{done}
use Rattle.line.specs.Transaction.{of_transaction}
use Rattle.line.proofs.OverlayLaws.{wrote-refused}
use Rattle.line.proofs.TransactionLaws.{of_legal, of_done, of_refused}
use Rattle.block.specs.Segments.{segment_block}
use Rattle.segmentation.specs.Segmentation.{segmentation, segment_at, write_segment}
use Rattle.segmentation.specs.declared.way.Way.TheVariants.{Filled}
use Rattle.line.proofs.LaidLaws.{wrote-laid}
use Rattle.segmentation.proofs.SegmentationByLaws.{by_filled}
use Rattle.segmentation.proofs.SegmentationLaws.{segmentation-count, segment-length}
use Rattle.segmentation.proofs.write_filled.Goals as goal
use Rattle.segmentation.proofs.write_filled.Goals.{Else-filled_count-index, Else-out-segment_length}

-- the index is that of a block
place : (c : Else-filled_count-index) → c.args.index < length (segmentation c.args.info.now)
place c = rw (segmentation-count c.args.info.now) (rw c.filled_count.ensures at c.if-filled_count-index.false)

-- which fits
fits : (c : Else-out-segment_length) → let a = c.args in length (segment_at a.info.now a.index).info + 6 ≤ length a.out.now
fits c =
    let a = c.args in
    let long = segment-length a.info.now a.index (place (goal.at.Else-out-segment_length c).Else-filled_count-index) in
    rw (long, ← c.segment_length.ensures) c.if-out-segment_length.false

-- so the transaction alone decides
passes : (c : Else-out-segment_length) →
    let a = c.args in
    write_segment Filled a.info.now a.index (length a.out.now) ≡ of_transaction a.info.now (done (segment_block (segment_at a.info.now a.index)))
unfolding write_segment
passes c = rw (lt-leb _ _ (place (goal.at.Else-out-segment_length c).Else-filled_count-index), le-ltb _ _ (fits c))

pub returns-then-filled_count-index : goal.returns-then-filled_count-index
unfolding write_segment
returns-then-filled_count-index c =
    let t = c.args.info.now in
    wrote-refused _ _ (rw (segmentation-count t, le-leb _ _ (rw c.filled_count.ensures at c.if-filled_count-index.true)))

pub returns-then-out-segment_length : goal.returns-then-out-segment_length
unfolding write_segment
returns-then-out-segment_length c =
    let a = c.args in
    let stands = place (goal.at.returns-then-out-segment_length c).Else-filled_count-index in
    let long = segment-length a.info.now a.index stands in
    wrote-refused _ _ (rw (lt-leb _ _ stands, lt-ltb _ _ (rw (c.segment_length.ensures, ← long) at c.if-out-segment_length.true)))

pub put_segment-requires : goal.put_segment-requires
put_segment-requires c =
    let a = c.args in
    let at = goal.at.put_segment-requires c in
    rw (by_filled a.info.now) ((of_done a.info.now _ _ (sym c.in_ok-check_transaction.ensures)).0, place at.Else-filled_count-index, fits at.Else-out-segment_length)

pub returns-in_err-check_transaction : goal.returns-in_err-check_transaction
returns-in_err-check_transaction c =
    rw (handed-on _ _ c.from_residual.ensures.1) (wrote-refused _ _ (passes (goal.at.returns-in_err-check_transaction c).Else-out-segment_length ∙ of_refused c.args.info.now _ _ _ (sym c.in_err-check_transaction.ensures)))

pub returns : goal.returns
returns c =
    let a = c.args in
    let legal = (of_done a.info.now _ _ (sym c.in_ok-check_transaction.ensures)).0 in
    wrote-laid (passes (goal.at.returns c).Else-out-segment_length ∙ of_legal a.info.now _ legal) (rw (by_filled a.info.now) at c.put_segment.ensures)
