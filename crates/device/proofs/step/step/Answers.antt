-- `step` meets its contract: what the tests refuse leaves state and memory; else the reply moves the device, and the string of the step that it leads to is put out.
use Rattle.std.specs.Prelude.{None}
use mathlib.Core.List.{List}
use mathlib.Core.Path.{◌≡◌, refl, sym, ap, ◌∙◌}
use Prim.Native.Nat.{ℕ}
use lib.ListN.{take, drop}
use Rattle.journal.specs.Survey.{survey_of}
use Rattle.journal.specs.declared.record.Located.{Located}
use Rattle.journal.proofs.EncodingLaws.{decode-legal}
use Rattle.reply.specs.Reading.{reply_read, Reply}
use Rattle.device.specs.Inner.{Waits, extent_for, transaction_of}
use Rattle.device.specs.Reaction.{move_as, moves}
use Rattle.device.specs.Remarks.{remarks_at}
use Rattle.device.specs.Step.{answered}
use Rattle.device.specs.declared.settling.Standing.TheVariants.{Open}
use Rattle.device.specs.declared.state.Settings.{Settings}
use Rattle.device.specs.declared.state.Step.{Step}
use Rattle.device.proofs.MoveLaws.{moves_lead}
use Rattle.device.proofs.PlaceLaws.{moves_exist}
use Rattle.device.proofs.StepLaws.{Passes, surveyed_passes, surveyed_refused, stepped-refused, stepped-done, steps-refused, steps-sent}
use Rattle.device.proofs.WaitLaws.{here-lies, leads-near, near-lies, sends-own}
use Rattle.device.proofs.step.step.Goals as goal

-- a job that has passed the tests of a step, surveyed at its transaction
module _ (settings : Settings) (step : Step) {job : List ℕ} {room : ℕ} {ts : List (List ℕ)} {found : Located} (passes : Passes settings step job room ts) (same : survey_of (transaction_of step) ts ≡ found) where
  -- the step's place waits there
  waits_here : {info : List ℕ} → info ≡ take found.here.length (drop found.here.start job) → Waits settings ts step info
  waits_here shows =
      let lies = here-lies job ts passes.read (transaction_of step) same in
      record {
        good = decode-legal job ts passes.read;
        cut = passes.cut;
        there = passes.there;
        shows = sends-own ts step _ (sym lies.holds ∙ sym shows);
      }

  -- so does that of the step that a reply leads to
  waits_next : (r : Reply) {next : Step} {info : List ℕ} → next ≡ (moves settings ts step r).next →
      (let extent = extent_for found (transaction_of step) (transaction_of next) in info ≡ take extent.length (drop extent.start job)) → Waits settings ts next info
  waits_next r {next} moved shows =
      let good = decode-legal job ts passes.read in
      let lies = near-lies job ts passes.read (transaction_of step) same (transaction_of next) in
      record {
        good = good;
        cut = passes.cut;
        there = rw moved (moves_exist settings ts good step r passes.there);
        shows = rw (shows, lies.holds, moved) (leads-near settings ts (moves_lead settings ts step r));
      }

pub part-info-requires : goal.part-info-requires
part-info-requires c =
    let a = c.args in
    let (ts, _, passes, same) = surveyed_passes a.settings a.state.step a.job.now _ c.test.ensures c.in-Ok.is in
    (here-lies a.job.now ts passes.read (transaction_of a.state.step) same).inside

pub moves-next-requires : goal.moves-next-requires
moves-next-requires c =
    let a = c.args in
    let (ts, _, passes, same) = surveyed_passes a.settings a.state.step a.job.now _ c.test.ensures c.in-Ok.is in
    (passes.limit, (ts, ap (λ found. found.count) same, waits_here a.settings a.state.step passes same c.part-info.ensures))

pub part-following-requires : goal.part-following-requires
part-following-requires c =
    let a = c.args in
    let (ts, _, passes, same) = surveyed_passes a.settings a.state.step a.job.now _ c.test.ensures c.in-Ok.is in
    rw c.extent_for-extent.ensures (near-lies a.job.now ts passes.read (transaction_of a.state.step) same (transaction_of c.moves-next.result.step)).inside

pub send-requires : goal.send-requires
send-requires c =
    let a = c.args in
    let (ts, _, passes, same) = surveyed_passes a.settings a.state.step a.job.now _ c.test.ensures c.in-Ok.is in
    let waits = waits_here a.settings a.state.step passes same c.part-info.ensures in
    let moved = rw c.read-heard.ensures at (c.moves-next.ensures ts (ap (λ found. found.count) same) waits) in
    let following = rw c.extent_for-extent.ensures at c.part-following.ensures in
    (passes.password, (ts, waits_next a.settings a.state.step passes same (reply_read a.reply.now) (ap (λ m. m.next) moved) following), passes.fits)

pub returns-in-Ok : goal.returns-in-Ok
returns-in-Ok c =
    let a = c.args in
    let (ts, whole, passes, same) = surveyed_passes a.settings a.state.step a.job.now _ c.test.ensures c.in-Ok.is in
    let waits = waits_here a.settings a.state.step passes same c.part-info.ensures in
    let moved : move_as c.moves-next.result ≡ moves a.settings ts a.state.step (reply_read a.reply.now) =
    rw c.read-heard.ensures at (c.moves-next.ensures ts (ap (λ found. found.count) same) waits) in
    let following = rw c.extent_for-extent.ensures at c.part-following.ensures in
    let waits-next = waits_next a.settings a.state.step passes same (reply_read a.reply.now) (ap (λ m. m.next) moved) following in
    let shown : c.remarks_of-remarks.result ≡ remarks_at a.state.step a.reply.now = rw (c.counted_as.ensures, c.read-heard.ensures) at c.remarks_of-remarks.ensures in
    steps-sent a.settings ts (stepped-done a.state a.settings a.job.now a.reply.now _ ts whole) moved (rw shown at (c.send.ensures ts waits-next))

pub returns-in-Err : goal.returns-in-Err
returns-in-Err c =
    let a = c.args in
    steps-refused _ a.state.step _ _ (stepped-refused a.state a.settings a.job.now a.reply.now _ _ (surveyed_refused a.settings a.state.step a.job.now _ c.test.ensures c.in-Err.is)) refl (c.answer.ensures ∙ ap (answered _ Open None) c.goes.ensures)
