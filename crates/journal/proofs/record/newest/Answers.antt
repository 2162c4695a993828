-- `newest` meets its contract: the trailer says how many records there are, so the record is the one as far from the oldest; past them there is none.
use mathlib.Core.Path.{sym, ap, ◌∙◌}
use Rattle.line.specs.Answer.{outcome_of}
use Rattle.journal.proofs.ReadLaws.{newest_past, newest_oldest}
use Rattle.journal.proofs.record.newest.Goals as goal

pub returns-then-count-index : goal.returns-then-count-index
returns-then-count-index c = newest_past _ _ _ (sym c.«open».ensures ∙ ap outcome_of c.in-Ok.is) c.if-count-index.true

pub returns : goal.returns
returns c = newest_oldest _ _ _ (sym c.«open».ensures ∙ ap outcome_of c.in-Ok.is) c.if-count-index.false c.oldest.ensures
