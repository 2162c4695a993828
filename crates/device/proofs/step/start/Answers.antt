-- `start` meets its contract: what the tests refuse leaves the memory; else the first string is put out.
use Rattle.std.specs.Prelude.{None}
use mathlib.Core.List.{List}
use mathlib.Core.Path.{◌≡◌, refl, ap, ◌∙◌}
use Prim.Native.Nat.{ℕ}
use Rattle.journal.proofs.EncodingLaws.{decode-legal}
use Rattle.device.specs.Inner.{Waits}
use Rattle.device.specs.Reaction.{first, goes}
use Rattle.device.specs.Step.{answered}
use Rattle.device.specs.declared.settling.Standing.TheVariants.{Open}
use Rattle.device.specs.declared.state.Settings.{Settings}
use Rattle.device.specs.declared.state.Step.{Step}
use Rattle.device.specs.declared.state.Step.TheVariants.{Opening, Stopped}
use Rattle.device.proofs.StepLaws.{Passes, surveyed_passes, surveyed_refused, started-refused, started-done, steps-refused, steps-sent}
use Rattle.device.proofs.WaitLaws.{here-lies}
use Rattle.device.proofs.step.start.Goals as goal

-- the opening waits at every job that has passed the tests
waits_first : {settings : Settings} {job : List ℕ} {room : ℕ} {ts : List (List ℕ)} → Passes settings Stopped job room ts → {next : Step} (info : List ℕ) → next ≡ Opening first →
    Waits settings ts next info
waits_first {job = job} {ts = ts} passes info opening = rw opening (record { good = decode-legal job ts passes.read; cut = passes.cut; there = refl; shows = tt })

pub part-requires : goal.part-requires
part-requires c =
    let a = c.args in
    let (ts, _, passes, same) = surveyed_passes a.settings Stopped a.job.now _ c.test.ensures c.in-Ok.is in
    (here-lies a.job.now ts passes.read 0 same).inside

pub send-requires : goal.send-requires
send-requires c =
    let a = c.args in
    let (ts, _, passes, _) = surveyed_passes a.settings Stopped a.job.now _ c.test.ensures c.in-Ok.is in
    let opening = ap (λ m. m.next) c.goes.ensures ∙ ap Opening c.first.ensures in
    (passes.password, (ts, waits_first passes c.part.result.now opening), passes.fits)

pub returns-in-Ok : goal.returns-in-Ok
returns-in-Ok c =
    let a = c.args in
    let (ts, whole, passes, _) = surveyed_passes a.settings Stopped a.job.now _ c.test.ensures c.in-Ok.is in
    let moved = c.goes.ensures ∙ ap (λ p. goes (Opening p)) c.first.ensures in
    steps-sent a.settings ts (started-done a.settings a.job.now _ ts whole) moved (c.send.ensures ts (waits_first passes c.part.result.now (ap (λ m. m.next) moved)))

pub returns-in-Err : goal.returns-in-Err
returns-in-Err c =
    let a = c.args in
    steps-refused _ Stopped _ _ (started-refused a.settings a.job.now _ _ (surveyed_refused a.settings Stopped a.job.now _ c.test.ensures c.in-Err.is)) refl (c.answer.ensures ∙ ap (answered _ Open None) c.goes-in-Err.ensures)
