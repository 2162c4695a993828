-- `check_from` meets its contract: whether every record is a page is told by those met so far and those that the walk has yet to meet.
use Rattle.export.proofs.ExportLaws.{Looked}
use Rattle.export.proofs.check_from.Given as goal

abbrev pub invariant-loop-place : goal.invariant-loop-place
invariant-loop-place l = Looked l.journal l.initial.at l.at l.every

abbrev pub decreases-loop-place : goal.decreases-loop-place
decreases-loop-place l = l.at.left
