-- `survey` meets its contract: the walk from the trailer finds the records, and the refusal of either stands.
use mathlib.Core.Path.{sym}
use Rattle.journal.proofs.EncodingLaws.{trailer-inside}
use Rattle.journal.proofs.record.survey.Goals as goal

pub survey_from-requires : goal.survey_from-requires
survey_from-requires c = trailer-inside _ _ (sym c.in_ok-open.ensures)
