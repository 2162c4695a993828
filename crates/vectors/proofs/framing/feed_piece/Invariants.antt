-- `feed_piece` is safe, and ends: each turn begins further on in the piece, and before its end.
use Rattle.std.proofs.Common.{◌-◌, length}
use Rattle.vectors.proofs.framing.feed_piece.Given as goal

abbrev pub decreases-loop-far : goal.decreases-loop-far
decreases-loop-far g l = length l.piece - l.from
