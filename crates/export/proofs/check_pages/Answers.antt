-- `check_pages` meets its contract: the walk from the trailer meets the records, and the refusal of either stands.
use Rattle.line.proofs.OutcomeLaws.{handed-refusal}
use mathlib.Core.Path.{sym, ◌∙◌}
use Rattle.journal.proofs.EncodingLaws.{trailer-inside}
use Rattle.export.proofs.ExportLaws.{opened-pages, unopened_pages}
use Rattle.export.proofs.check_pages.Goals as goal

pub check_from-requires : goal.check_from-requires
check_from-requires c = trailer-inside _ _ (sym c.in_ok-open.ensures)

pub returns-in_err-open : goal.returns-in_err-open
returns-in_err-open c = handed-refusal _ _ c.from_residual.ensures.1 ∙ unopened_pages _ _ (sym c.in_err-open.ensures)

pub returns : goal.returns
returns c = c.check_from.ensures ∙ opened-pages _ _ (sym c.in_ok-open.ensures)
