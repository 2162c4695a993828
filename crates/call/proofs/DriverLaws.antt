-- A driver of both ends, whatever the damage: where it hands each end what arrives, neither step is refused, both make the exchange of the run's definition, and the device says how the accepted verdicts stand behind it.
use mathlib.Core.Bool.{true, false, not, ◌&&◌, and-eq-true_iff}
use mathlib.Core.List.{List}
use mathlib.Core.Path.{◌≡◌, refl, sym, ap, ◌∙◌}
use Prim.Native.Nat.{ℕ, ◌≤◌}
use borrow.Author.Tests.{le-ltb}
use lib.Dec.{ltb}
use lib.ListN.{length}
use Rattle.line.proofs.OutcomeLaws.{map-done, passed}
use Rattle.line.proofs.OverlayLaws.{overlay-start}
use Rattle.line.specs.Answer.{done}
use Rattle.line.specs.Character.{byte}
use Rattle.line.specs.Test.{all}
use Rattle.journal.specs.Storage.{decode_in}
use Rattle.central.proofs.CentralLaws.{step_in_range_lem, step-journal}
use Rattle.central.specs.Hearing.{heard}
use Rattle.central.specs.Reaction.{Central, Reaction, reacts, answer_bytes}
use Rattle.central.specs.Step as CentralStep
use Rattle.device.proofs.DeviceLaws as DeviceLaws
use Rattle.device.proofs.StepLaws.{stepped-passes}
use Rattle.device.specs.Settling.{is_stopped}
use Rattle.device.specs.Step as DeviceStep
use Rattle.device.specs.declared.state.Report.TheVariants as Reporting
use Rattle.demand.proofs.FinalLaws.{exchange-stands}
use Rattle.demand.specs.Final.{standing_in}
use Rattle.demand.specs.Run.{Transit, hit, Inputs, Ends, start, string, responds, follows, exchange}
use Rattle.call.specs.Call.{Transactions, Setup}
use Rattle.call.specs.Driver.{job_of, inputs_from, Sound, Kept, Holds, opening, starting, central_steps, device_steps, Driven}

-- what was tested once: the device's settings, the central's and the pager list are in range
pub sound-ranged : {s : Setup} → Sound s →
    (DeviceStep.settings_in_range s.device ≡ true) × (CentralStep.settings_in_range s.central ≡ true) × (CentralStep.pagers_in_range s.pagers ≡ true)
sound-ranged {s} sound =
    let (both, pagers) = (and-eq-true_iff (DeviceStep.settings_in_range s.device && CentralStep.settings_in_range s.central) (CentralStep.pagers_in_range s.pagers)).0 sound.ranged in
    let (device, central) = (and-eq-true_iff (DeviceStep.settings_in_range s.device) (CentralStep.settings_in_range s.central)).0 both in
    (device, central, pagers)

-- the device's start is not refused
pub started-done : {s : Setup} → Sound s → (room : ℕ) → 256 ≤ room → DeviceStep.started s.device s.job room ≡ done (opening s)
unfolding DeviceStep.started DeviceStep.tested
started-done sound room h = rw ((sound-ranged sound).0, le-ltb room 256 h, sound.read, sound.cut)

-- what a driver keeps before the first transmission is the start of a run
pub starts : (s : Setup) (array buffer : List ℕ) (n : ℕ) (journal : Transactions) → decode_in buffer n ≡ done journal → Holds s (start (inputs_from s journal)) (starting s array buffer n)
unfolding all
starts s array buffer n journal read = record { step = refl; ranged = refl; there = refl; central = refl; state = refl; read = read; put = refl }

-- what a driver keeps is these ends of a run that starts with this journal, and the line has this damage for the next transmission
module _ {s : Setup} (sound : Sound s) (first : Transactions) (d : Transit) {e : Ends Transactions} {k : Kept} (holds : Holds s e k) where
  -- the inputs of the run
  abbrev i : Inputs Transactions
  i = inputs_from s first

  -- what the central does with what arrives
  abbrev reaction : Reaction Transactions
  reaction = responds i d.out e

  -- the step that the device then takes, and its string
  abbrev sending : DeviceStep.Sent
  sending = DeviceStep.sent s.device (job_of s) (follows i d e)

  -- the saved central reacts as the run's
  reacts-same : let c = k.central in
      reacts i.rules (CentralStep.central_of c e.central.journal) c.stage (heard c.stage (hit d.out k.string)) ≡ reaction
  unfolding responds
  reacts-same =
      let does : Central Transactions → Reaction Transactions = λ c. reacts i.rules c c.stage (heard c.stage (hit d.out (string i e))) in
      rw holds.put (ap does holds.central)

  -- the central's step is not refused
  pub central-done : (room : ℕ) → 7 ≤ room → central_steps s d k room ≡ done reaction
  unfolding CentralStep.stepped CentralStep.tested
  central-done room h =
      let (_, settings, pagers) = sound-ranged sound in
      rw (settings, pagers, holds.state, le-ltb room 7 h, holds.read) (ap done reacts-same)

  -- neither is the device's
  pub device-done : (room : ℕ) → 256 ≤ room → device_steps s d k reaction room ≡ done sending
  unfolding DeviceStep.stepped DeviceStep.tested follows
  device-done room h = rw (holds.step, (sound-ranged sound).0, holds.ranged, le-ltb room 256 h, sound.read, sound.cut, holds.there)

  -- the central's reaction is the run's
  reacted : (room : ℕ) {x : Reaction Transactions} → central_steps s d k room ≡ done x → x ≡ reaction
  unfolding CentralStep.stepped CentralStep.tested
  reacted room {x} hears =
      let (ts, tested, made) = map-done _ _ x hears in
      let (_, r) = passed (not (CentralStep.settings_in_range s.central && CentralStep.pagers_in_range s.pagers && CentralStep.state_in_range s.central k.central)) _ _ _ tested in
      let (_, read) = passed (ltb room 7) _ _ _ r in
      let same : ts ≡ e.central.journal = cc holds.read in
      sym made ∙ rw same reacts-same

  -- so is the device's move
  moved : (room : ℕ) {y : DeviceStep.Sent} → device_steps s d k reaction room ≡ done y → y ≡ sending
  unfolding follows
  moved room {y} reads =
      let (ts, passes, made) = stepped-passes k.device s.device s.job (hit d.back (answer_bytes reaction.answer)) room y reads in
      let same : ts ≡ job_of s = cc (passes.read, sound.read) in
      sym made ∙ rw (same, holds.step)

  -- a device that goes on and has reported nothing says, of the accepted verdicts, how they stand at the ends behind the exchange
  pub driven-stands : (room room' : ℕ) {x : Reaction Transactions} {y : DeviceStep.Sent} → central_steps s d k room ≡ done x → device_steps s d k x room' ≡ done y →
      is_stopped e.step ≡ false → e.report ≡ Reporting.Nothing → DeviceStep.standing_of k.device.step (done y) ≡ standing_in i (exchange i d e)
  driven-stands room room' {x} {y} hears reads goes_on_lem quiet =
      let reads' : device_steps s d k reaction room' ≡ done y = rw (reacted room hears) at reads in
      rw (moved room' reads', holds.step, goes_on_lem) (sym (exchange-stands i d e quiet))

  -- the steps, with so much room for the answer and for the next string
  module _ (room room' : ℕ) (bytes : all byte k.buffer ≡ true) where
    -- they make the exchange
    made-exchange : central_steps s d k room ≡ done reaction → device_steps s d k reaction room' ≡ done sending → Driven s i d e k reaction sending
    unfolding exchange
    made-exchange hears reads =
        let p = reaction.next.pending in
        let (range, there) = DeviceLaws.step_in_range_lem k.device s.device s.job (hit d.back (answer_bytes reaction.answer)) room' sending reads in
        record {
          exchanges = rw holds.put;
          holds = record {
            step = refl;
            ranged = range;
            there = there (job_of s) sound.read;
            central = rw (overlay-start p k.central.pending (length p) refl);
            state = step_in_range_lem k.central s.central s.pagers k.buffer (hit d.out k.string) room reaction hears;
            read = (step-journal k.central s.central s.pagers k.buffer (hit d.out k.string) room reaction hears bytes).1;
            put = refl;
          };
        }

    -- a driver that hands the central what arrives of the string, and the device what arrives of the answer, makes the exchange, and keeps the ends behind it
    pub driven : {x : Reaction Transactions} {y : DeviceStep.Sent} → central_steps s d k room ≡ done x → device_steps s d k x room' ≡ done y → Driven s i d e k x y
    driven {x} {y} hears reads =
        let same = reacted room hears in
        let reads' : device_steps s d k reaction room' ≡ done y = rw same at reads in
        let sent = moved room' reads' in
        rw (sent, same) (made-exchange (rw same at hears) (rw sent at reads'))
