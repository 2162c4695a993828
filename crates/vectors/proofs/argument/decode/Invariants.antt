-- `decode` is safe: the memory keeps its length.
use Rattle.std.proofs.Common.{◌-◌, length}
use Rattle.vectors.proofs.argument.decode.Given as goal

abbrev pub decreases-loop-i : goal.decreases-loop-i
decreases-loop-i l = length l.line - l.i
