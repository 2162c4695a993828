-- `admit` meets its contract: each refusal is that of its test; where the information is a transaction of right content, the append lacks at most the room.
use mathlib.Core.Path.{sym, ◌∙◌}
use Rattle.line.proofs.TransactionLaws.{of_done}
use Rattle.admission.proofs.AdmissionLaws.{admits-handed, admits-rejected, admit_unopened, admit_unjudged, admit_content, admit_extended}
use Rattle.admission.proofs.admit.Goals as goal

pub returns-in_err-open_in : goal.returns-in_err-open_in
returns-in_err-open_in c = admits-handed _ _ _ c.from_residual.ensures.1 (admit_unopened _ _ _ _ _ _ (sym c.in_err-open_in.ensures))

pub returns-in_err-check_transaction : goal.returns-in_err-check_transaction
returns-in_err-check_transaction c =
    admits-handed _ _ _ c.from_residual-in_err-check_transaction.ensures.1 (admit_unjudged _ _ _ _ _ _ (sym c.in_ok-open_in.ensures) _ (sym c.in_err-check_transaction.ensures))

pub returns-then-not-has_content : goal.returns-then-not-has_content
returns-then-not-has_content c =
    let judged = (of_done _ _ _ (sym c.in_ok-check_transaction.ensures)).0 in
    admits-rejected _ (admit_content _ _ _ _ _ _ (sym c.in_ok-open_in.ensures) judged (sym c.has_content.ensures ∙ c.if-not-has_content.true))

pub returns : goal.returns
returns c =
    let judged = (of_done _ _ _ (sym c.in_ok-check_transaction.ensures)).0 in
    let right = sym c.has_content.ensures ∙ c.if-not-has_content.false in
    rw c.ok.ensures.value (admit_extended _ _ _ _ _ _ (sym c.in_ok-open_in.ensures) judged right c.extend.ensures)
