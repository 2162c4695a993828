-- `put_piece` meets its contract: a piece that is right for its ending is written, and counted.
use Rattle.line.proofs.NumberLaws.{laid-count}
use Rattle.block.proofs.FrameLaws.{write_right}
use Rattle.segmentation.proofs.put_piece.Goals as goal

pub returns : goal.returns
returns c =
    let ending = c.segment_ending.ensures in
    rw (← ending) (laid-count (write_right _ _ _ c.requires.2 c.requires.0 (rw ending c.requires.1)) c.write.ensures c.count.ensures)
