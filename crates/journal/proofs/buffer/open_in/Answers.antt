-- `open_in` meets its contract: the journal in the buffer is opened, and what refuses it stands.
use Rattle.line.proofs.OutcomeLaws.{handed-refusal}
use mathlib.Core.Path.{◌∙◌}
use Rattle.journal.specs.Storage.{trailer_in}
use Rattle.journal.specs.Walk.{trailer}
use Rattle.journal.proofs.StorageLaws.{in_read}
use Rattle.journal.proofs.buffer.open_in.Goals as goal

pub returns-in_err-journal_in : goal.returns-in_err-journal_in
unfolding trailer_in
returns-in_err-journal_in c = handed-refusal _ _ c.from_residual.ensures.1 ∙ in_read trailer _ _ _ c.in_err-journal_in.ensures

pub returns : goal.returns
unfolding trailer_in
returns c = c.«open».ensures ∙ in_read trailer _ _ _ c.in_ok-journal_in.ensures
