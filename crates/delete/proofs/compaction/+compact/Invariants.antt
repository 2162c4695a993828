-- `compact` meets its contract: its one cycle of calls is that of itself, with one record fewer left.
-- By the walk back, which it goes: nothing is written before the oldest record is met, and then each record is kept or not as it is chosen.
use Rattle.delete.proofs.compaction.+compact.Given as goal

-- how many records are left
abbrev pub decreases-compact : goal.decreases-compact
decreases-compact l = l.position.left
