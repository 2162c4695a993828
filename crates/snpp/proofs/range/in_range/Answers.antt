-- `in_range` meets its contract: both arrays and their lengths are tested.
use Rattle.snpp.specs.State.{in_range}
use Rattle.snpp.proofs.range.in_range.Goals as goal

pub returns : goal.returns
unfolding in_range
returns c = rw (c.holds_text.ensures, c.holds_text-2.ensures, c.has_lengths.ensures)
