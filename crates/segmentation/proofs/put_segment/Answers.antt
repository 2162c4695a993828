-- `put_segment` meets its contract: the piece that it cuts is the segment's, and so is the ending; of a legal transaction it is right.
use mathlib.Core.Path.{◌≡◌}
use Rattle.block.proofs.SegmentsLaws.{joins_at}
use Rattle.segmentation.specs.Segmentation.{segment_at_by}
use Rattle.segmentation.proofs.SegmentationByLaws.{piece_from, by_joins, turn_at}
use Rattle.segmentation.proofs.put_segment.Goals as goal
use Rattle.segmentation.proofs.put_segment.Goals.{After-next_length}

-- the piece is the segment
cut : (c : After-next_length) →
    let a = c.args in
    segment_at_by a.way a.info.now a.index ≡ piece_from a.info.now c.segment_start-from.result c.next_length.result
cut c =
    let (within, here) = c.segment_start-from.ensures in
    turn_at c.args.way c.args.info.now _ _ within c.next_length.ensures c.args.index here c.requires.1

pub put_piece-requires : goal.put_piece-requires
put_piece-requires c =
    let is = cut (goal.at.put_piece-requires c).After-next_length in
    let (short, good) = rw is at (joins_at (by_joins c.args.way c.args.info.now c.requires.0) c.args.index c.requires.1) in
    (short, good, rw is at c.requires.2)

pub returns : goal.returns
returns c = rw (cut (goal.at.returns c).After-next_length) c.put_piece.ensures
