-- `check_cuttable` meets its contract: what is no transaction is refused as such, whatever the way; of the others the way decides.
use Rattle.line.proofs.OutcomeLaws.{handed-on}
use mathlib.Core.Path.{sym, ap, ◌∙◌}
use Rattle.line.specs.Answer.{outcome_of}
use Rattle.line.proofs.TransactionLaws.{of_done, of_legal, of_refused}
use Rattle.segmentation.proofs.check_cuttable.Goals as goal

pub returns-in_err-n : goal.returns-in_err-n
returns-in_err-n c =
    ap outcome_of (handed-on _ _ c.from_residual.ensures.1) ∙ sym (of_refused c.args.info.now _ _ _ (sym c.in_err-n.ensures))

pub returns-then-not-is_cuttable : goal.returns-then-not-is_cuttable
returns-then-not-is_cuttable c =
    let legal = (of_done c.args.info.now _ _ (sym c.in_ok-n.ensures)).0 in
    rw (of_legal _ _ legal, sym c.is_cuttable.ensures ∙ c.if-not-is_cuttable.true)
