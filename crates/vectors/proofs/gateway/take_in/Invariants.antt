-- `take_in` is safe, and ends: each turn begins further on in the lines, and both buffers keep their lengths.
use Rattle.std.proofs.Common.{◌-◌, length}
use Rattle.vectors.proofs.gateway.take_in.Given as goal

abbrev pub decreases-loop-from : goal.decreases-loop-from
decreases-loop-from l = length l.lines - l.from
