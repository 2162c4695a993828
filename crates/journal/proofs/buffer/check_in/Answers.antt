-- `check_in` meets its contract: the journal in the buffer is checked, and what refuses it stands.
use Rattle.line.proofs.OutcomeLaws.{handed-refusal}
use mathlib.Core.Path.{ap, ◌∙◌}
use lib.ListN.{length}
use Rattle.line.specs.Answer.{map_done}
use Rattle.journal.specs.Storage.{decode_in}
use Rattle.journal.specs.Walk.{decode}
use Rattle.journal.proofs.StorageLaws.{in_read}
use Rattle.journal.proofs.buffer.check_in.Goals as goal

pub returns-in_err-journal_in : goal.returns-in_err-journal_in
unfolding decode_in
returns-in_err-journal_in c = handed-refusal _ _ c.from_residual.ensures.1 ∙ ap (map_done length) (in_read decode _ _ _ c.in_err-journal_in.ensures)

pub returns : goal.returns
unfolding decode_in
returns c = c.check.ensures ∙ ap (map_done length) (in_read decode _ _ _ c.in_ok-journal_in.ensures)
