-- `run` meets its contract: what the tests refuse is refused with all memory as it was; else the run is played, and demand 3 holds of its inputs.
use Rattle.line.proofs.OutcomeLaws.{handed-on}
use mathlib.Core.Path.{sym}
use native.Mathlib.Omega.{arith}
use lib.ListN.{length}
use Rattle.line.specs.declared.answer.Refusal.TheVariants.{Size}
use Rattle.call.proofs.CallLaws.{call_refused, call_short, call_done, call_ready, sound-legal, runs-refused, runs_done}
use Rattle.call.proofs.run.run.Goals as goal

pub returns-in_err-count : goal.returns-in_err-count
returns-in_err-count c =
    rw (handed-on _ _ c.from_residual.ensures.1) (runs-refused _ (call_refused _ _ _ _ _ _ (sym c.in_err-count.ensures)))

pub returns-then-verdicts-count : goal.returns-then-verdicts-count
returns-then-verdicts-count c =
    let room = length c.args.verdicts.now in
    runs-refused Size (call_short _ _ _ _ _ (sym c.in_ok-count.ensures) room (λ e. omega (arith, c.if-verdicts-count.true)))

pub begin-requires : goal.begin-requires
begin-requires c = call_ready _ _ _ _ _ (sym c.in_ok-count.ensures) {verdicts = c.args.verdicts.now} (omega (arith, c.if-verdicts-count.false))

pub returns : goal.returns
returns c =
    let a = c.args in
    let size = c.if-verdicts-count.false in
    let counted = sym c.in_ok-count.ensures in
    let ready = call_ready _ _ _ _ _ counted {verdicts = a.verdicts.now} size in
    runs_done a.faults.now (call_done _ _ _ _ _ counted _ size) c.begin.ensures (sound-legal ready.sound _) ready.one_each
