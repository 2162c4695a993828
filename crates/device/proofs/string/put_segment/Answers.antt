-- `put_segment` meets its contract: the block of a legal transaction that can be cut is written, and put out with parity.
use mathlib.Core.Path.{◌≡◌, sym}
use native.Mathlib.Omega.{arith}
use lib.Seq.{length-take-le}
use Rattle.line.specs.Answer.{done}
use Rattle.line.proofs.LaidLaws.{laid-start, laid-within}
use Rattle.line.proofs.NumberLaws.{laid-count}
use Rattle.block.specs.Segments.{segment_block}
use Rattle.block.proofs.SegmentsLaws.{joins-short, joins-seven}
use Rattle.segmentation.specs.Segmentation.{segment_at_by, write_segment}
use Rattle.segmentation.proofs.SegmentationByLaws.{by_joins, by_written}
use Rattle.device.proofs.string.put_segment.Goals as goal
use Rattle.device.proofs.string.put_segment.Goals.{Start}

-- it is written
writes : (s : Start) →
    write_segment s.args.way s.args.info.now s.args.index 256 ≡ done (segment_block (segment_at_by s.args.way s.args.info.now s.args.index))
writes s = by_written s.args.way _ s.args.index s.requires.0 s.requires.1 s.requires.2

pub slice_bounds-text-end : goal.slice_bounds-text-end
slice_bounds-text-end c = laid-within (laid-count (writes (goal.at.slice_bounds-text-end c).Start) c.write_segment.ensures c.count-n.ensures)

pub slice_bounds-put_text-end : goal.slice_bounds-put_text-end
slice_bounds-put_text-end c =
    sym (length-take-le _ _ (laid-within (laid-count (writes (goal.at.slice_bounds-put_text-end c).Start) c.write_segment.ensures c.count-n.ensures)))

pub put_text-requires : goal.put_text-requires
put_text-requires c =
    let laid = laid-count (writes (goal.at.put_text-requires c).Start) c.write_segment.ensures c.count-n.ensures in
    let joins = by_joins c.args.way c.args.info.now c.requires.0 in
    rw (laid-start laid) (joins-seven joins c.args.index c.requires.2, omega (arith, joins-short joins c.args.index c.requires.2))

pub returns : goal.returns
returns c =
    let laid = laid-count (writes (goal.at.returns c).Start) c.write_segment.ensures c.count-n.ensures in
    rw (laid-start laid) at c.put_text.ensures
