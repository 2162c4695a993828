-- `print_change` is safe, and ends: each turn begins further on in the buffer.
use Rattle.std.proofs.Common.{◌-◌, length}
use Rattle.vectors.proofs.deletion.print_change.Given as goal

abbrev pub decreases-loop-from : goal.decreases-loop-from
decreases-loop-from g l = length l.journal - l.from
