-- `survey_from` meets its contract: the extents of the records met so far begin where the walk stands, and at its end they are the journal's.
use Rattle.journal.proofs.SurveyLaws.{Noted}
use Rattle.journal.proofs.record.survey_from.Given as goal

abbrev pub invariant-loop-place : goal.invariant-loop-place
invariant-loop-place l = Noted l.journal l.index l.initial.at l.at l.last l.here l.next

abbrev pub decreases-loop-place : goal.decreases-loop-place
decreases-loop-place l = l.at.left
