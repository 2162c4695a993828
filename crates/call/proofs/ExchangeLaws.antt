-- One transmission by both ends' steps: an instance of the driver's law, at the damage of a fault.
use mathlib.Core.Bool.{Bool, true, false}
use mathlib.Core.List.{List, [], map}
use mathlib.Core.Path.{◌≡◌, refl, sym, subst, ap, ◌∙◌}
use Prim.Native.Nat.{ℕ, ◌≤◌, ◌/◌, ◌%◌}
use native.Mathlib.Omega.{arith}
use lib.ListN.{length, take, length-append}
use lib.Seq.{length-take-le}
use Rattle.line.proofs.OverlayLaws.{overlay-start}
use Rattle.line.specs.Answer.{Outcome, done, count_of, outcome_of, overlay}
use Rattle.line.specs.Character.{byte}
use Rattle.line.specs.Test.{all}
use Rattle.journal.specs.Storage.{stored_in}
use Rattle.central.specs.Reaction.{Reaction, answer_bytes}
use Rattle.central.proofs.StepLaws.{stepped-sized}
use Rattle.central.specs.Lent.{state_of, stepped_in, whole_of}
use Rattle.central.specs.Step as CentralStep
use Rattle.central.specs.declared.state.Moved.{Moved}
use Rattle.device.proofs.SettlingLaws.{is-stopped}
use Rattle.device.specs.Reaction.{verdict_number}
use Rattle.device.specs.Settling.{is_stopped}
use Rattle.device.specs.Step as DeviceStep
use Rattle.device.specs.declared.state.Report.TheVariants as Reporting
use Rattle.device.specs.declared.state.Step.{Step}
use Rattle.device.specs.declared.state.Stepped as DeviceStepped
use Rattle.demand.proofs.FinalLaws.{exchange-unreported}
use Rattle.demand.specs.Faults.{damages}
use Rattle.demand.specs.Run.{Transit, Inputs, answer, responds, follows, hit, noted, exchange}
use Rattle.call.specs.Call.{Transactions, Setup}
use Rattle.call.specs.Driver.{Kept, Holds, job_of, inputs_from, behind}
use Rattle.call.specs.Inner.{Exchanged, Underway, arrives, kept_in}
use Rattle.call.specs.declared.exchange.Saved.{Saved}
use Rattle.call.proofs.DriverLaws.{central-done, device-done, driven, driven-stands}

-- what was done and is counted has this length
pub count-told : {o : Outcome ℕ} {n m : ℕ} → n ≡ count_of o → o ≡ done m → n ≡ m
count-told e h = e ∙ ap count_of h

-- so many bytes as were counted lie at the start of the memory
pub told-inside : (bytes before : List ℕ) {after : List ℕ} (n : ℕ) → n ≡ length bytes → after ≡ overlay bytes before → n ≤ length after
unfolding overlay
told-inside bytes before n e laid = rw (laid, length-append) (omega arith)

-- a run that is underway, and the fault of the next transmission
module _ {s : Setup} {saved : Saved} {buffer pending memory verdicts : List ℕ} (u : Underway s saved buffer pending memory verdicts) (fault : ℕ) where
  -- the inputs of the run
  abbrev i : Inputs Transactions
  i = inputs_from s u.first

  -- the damage of the fault
  abbrev damage : Transit
  damage = damages i fault u.ends

  -- what is kept
  abbrev kept : Kept
  kept = kept_in saved buffer pending memory

  -- what the central does
  abbrev reaction : Reaction Transactions
  reaction = responds i damage.out u.ends

  -- what the device does
  abbrev sending : DeviceStep.Sent
  sending = DeviceStep.sent s.device (job_of s) (follows i damage u.ends)

  -- the string as it arrives
  abbrev heard : List ℕ
  heard = arrives (fault / 3) (take saved.count memory)

  -- the device has not stopped: it has put out a string
  pub goes_on_lem : is_stopped u.ends.step ≡ false
  goes_on_lem = go (is_stopped u.ends.step) refl
    where
      go : (c : Bool) → is_stopped u.ends.step ≡ c → is_stopped u.ends.step ≡ false
      go false e = e
      go true e =
          let stopped = is-stopped u.ends.step e in
          let none : take saved.count memory ≡ [] = u.stands.holds.put ∙ rw stopped in
          absurd (omega (arith, u.sends, length-take-le saved.count memory u.stands.inside, ap length none))

  -- so it has reported nothing
  quiet : u.ends.report ≡ Reporting.Nothing
  quiet = u.stands.unreported goes_on_lem

  -- it arrives as the damage lets it
  arrives_damaged : heard ≡ hit damage.out (take saved.count memory)
  arrives_damaged = rw u.stands.holds.put

  -- the central has stepped
  module _ {reacted : Moved} {buffer' pending' out out' : List ℕ}
      (hears : CentralStep.Steps (stepped_in saved.central pending s.central s.pagers buffer heard (length out)) (state_of saved.central pending) (whole_of reacted pending') buffer buffer' out out')
      (room : 7 ≤ length out) where
    -- its step is not refused
    central-made : stepped_in saved.central pending s.central s.pagers buffer heard (length out) ≡ done reaction
    central-made =
        stepped-sized saved.central s.central s.pagers pending buffer heard (length out) u.stands.sized
        ∙ rw arrives_damaged (central-done u.stands.sound u.first damage u.stands.holds (length out) room)

    -- what it leaves
    pub central-steps : CentralStep.Steps (done reaction) (state_of saved.central pending) (whole_of reacted pending') buffer buffer' out out'
    central-steps =
        subst (λ o. CentralStep.Steps o (state_of saved.central pending) (whole_of reacted pending') buffer buffer' out out') central-made hears

    -- its answer has been counted
    module _ (n : ℕ) (answers : n ≡ count_of (outcome_of reacted.outcome)) where
      -- it lies at the start of the output
      pub answer-inside : n ≤ length out'
      answer-inside = told-inside (answer_bytes reaction.answer) out n (count-told answers central-steps.answers) central-steps.leaves

      -- and is the run's
      answer-put : take n out' ≡ answer i damage.out u.ends
      answer-put = rw central-steps.leaves (overlay-start (answer_bytes reaction.answer) out n (sym (count-told answers central-steps.answers)))

      -- the device has stepped
      module _ {moved : DeviceStepped.Stepped} {before memory' : List ℕ}
          (reads : DeviceStep.Steps (DeviceStep.stepped saved.device s.device s.job (arrives (fault % 3) (take n out')) (length before)) saved.device.step moved before memory')
          (wide : length before ≡ 256) where
        -- its step is not refused
        device-made : DeviceStep.stepped saved.device s.device s.job (arrives (fault % 3) (take n out')) (length before) ≡ done sending
        device-made = rw answer-put (device-done u.stands.sound u.first damage u.stands.holds (length before) (omega arith))

        -- what it leaves
        pub device-steps : DeviceStep.Steps (done sending) saved.device.step moved before memory'
        device-steps = subst (λ o. DeviceStep.Steps o saved.device.step moved before memory') device-made reads

        -- both steps made the exchange
        pub exchanged : {verdicts' : List ℕ} (next : ℕ) → next ≡ count_of (outcome_of moved.outcome) → verdicts' ≡ map verdict_number (noted moved.given u.ends.verdicts) →
            length pending' ≡ length pending → length memory' ≡ length before → all byte buffer ≡ true →
            Exchanged s i fault u.ends (record { device = moved.state; central = reacted.control; count = next; standing = moved.standing }) buffer buffer' pending' memory' verdicts'
        unfolding exchange
        exchanged next told numbers Long-as same bytes =
            let central = central-steps in
            let device = device-steps in
            let long = count-told told device.answers in
            let put : take next memory' ≡ sending.string = rw device.leaves (overlay-start sending.string before next (sym long)) in
            let hears' = central-done u.stands.sound u.first damage u.stands.holds 256 (omega arith) in
            let reads' = device-done u.stands.sound u.first damage u.stands.holds 256 (omega arith) in
            let made = driven u.stands.sound u.first damage u.stands.holds 256 256 bytes hears' reads' in
            let at : Step → Kept = λ step. record {
              device = record { step = step };
              central = CentralStep.saved_as reaction pending;
              buffer = stored_in (done reaction.next.journal) buffer;
              string = sending.string;
            } in
            let kept' : behind kept reaction sending ≡ kept_in (record { device = moved.state; central = reacted.control; count = next; standing = moved.standing }) buffer' pending' memory' =
            rw (central.state, central.stored, put) (ap at (sym device.state)) in
            record {
              stands = record {
                sound = u.stands.sound;
                holds = subst (Holds s (exchange i damage u.ends)) kept' made.holds;
                sized = Long-as ∙ u.stands.sized;
                inside = told-inside sending.string before next long device.leaves;
                wide = same ∙ wide;
                numbers = rw device.gave at numbers;
                said = device.stands ∙ driven-stands u.stands.sound u.first damage u.stands.holds 256 256 hears' reads' goes_on_lem quiet;
                unreported = exchange-unreported i damage u.ends quiet;
              };
              stored = central.stored;
            }
