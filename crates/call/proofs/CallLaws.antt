-- A call: the ends that a run begins with, what the tests make of a call, and what it owes where it is refused and where it is done.
use Rattle.std.specs.Prelude.{Ok, Err}
use mathlib.Core.Bool.{false≢true}
use mathlib.Core.List.{List, map}
use mathlib.Core.Path.{◌≡◌, refl, sym, subst, ap, ◌∙◌}
use Prim.Native.Nat.{ℕ, ◌≤◌}
use borrow.Author.Tests.{eq-eqb, ne_eqb}
use lib.ListN.{length, take, replicate, length-map}
use Rattle.line.proofs.OutcomeLaws.{map-refused}
use Rattle.line.proofs.OverlayLaws.{overlay-none, overlay-start, overlay-whole}
use Rattle.line.specs.Answer.{Outcome, done, refused, count_of, output, outcome_of, refusal_number}
use Rattle.line.specs.declared.answer.Refusal.{Refusal}
use Rattle.journal.proofs.EncodingLaws.{decode-legal}
use Rattle.journal.specs.Storage.{decode_in, stored_in}
use Rattle.central.specs.Lent.{state_of, start_in}
use Rattle.central.specs.declared.state.Control.{Control}
use Rattle.device.proofs.SettlingLaws.{settled-length}
use Rattle.device.proofs.StepLaws.{settings_parts}
use Rattle.device.specs.Reaction.{verdict_number}
use Rattle.device.specs.Step as DeviceStep
use Rattle.device.specs.declared.settling.Standing.TheVariants.{Open}
use Rattle.device.specs.declared.state.Step.{Step}
use Rattle.device.specs.declared.state.Step.TheVariants.{Stopped}
use Rattle.device.specs.declared.state.Stepped as DeviceStepped
use Rattle.device.specs.declared.state.Verdict.TheVariants.{Unsent}
use Rattle.demand.proofs.Demand.{demand3}
use Rattle.demand.proofs.FinalLaws.{finals}
use Rattle.demand.specs.Demand.{Fair, Demand3, Legal}
use Rattle.demand.specs.Faults.{faulted}
use Rattle.demand.specs.Final.{Finals, final_verdicts, standing_in}
use Rattle.demand.specs.Run.{Inputs, start, final}
use Rattle.call.specs.Call.{Transactions, Setup, Played, Runs, called, played, tested}
use Rattle.call.specs.Driver.{Sound, Kept, Holds, inputs_from, job_of, opening, starting}
use Rattle.call.specs.Inner.{Begins, Plays, Ready, inputs_in, kept_in}
use Rattle.call.specs.declared.run.Totals.{Totals}
use Rattle.call.proofs.DriverLaws.{sound-ranged, started-done, starts}
use Rattle.call.proofs.ExchangeLaws.{count-told, told-inside}
use Rattle.call.proofs.TestedLaws.{Passed, count, tested-passed}

-- ── The beginning ──

module _ {s : Setup} (sound : Sound s) where
  -- what the device's start leaves
  pub started-steps : {r : DeviceStepped.Stepped} {memory memory' : List ℕ} → DeviceStep.Steps (DeviceStep.started s.device s.job (length memory)) Stopped r memory memory' →
      256 ≤ length memory → DeviceStep.Steps (done (opening s)) Stopped r memory memory'
  started-steps {r} {memory} {memory'} w h = subst (λ o. DeviceStep.Steps o Stopped r memory memory') (started-done sound (length memory) h) w

  -- what demand 3 asks of the inputs
  pub sound-legal : (journal : Transactions) → Legal (inputs_from s journal)
  sound-legal journal = record { job = decode-legal s.job (job_of s) sound.read; password = (settings_parts s.device (sound-ranged sound).0).0 }

-- the ends stand as a run starts
pub begins : {s : Setup} {buffer : List ℕ} {n : ℕ} {verdicts verdicts' : List ℕ} → Ready s buffer n verdicts →
    {r : DeviceStepped.Stepped} {central : Control} {pending memory memory' : List ℕ} (count : ℕ) →
    DeviceStep.Steps (done (opening s)) Stopped r memory memory' → count ≡ count_of (outcome_of r.outcome) → central ≡ start_in n →
    verdicts' ≡ map verdict_number (replicate (length verdicts) Unsent) → length pending ≡ 2000 → length memory' ≡ 256 →
    Begins s (record { device = r.state; central = central; count = count; standing = Open }) buffer pending memory' verdicts'
begins {s} {buffer} {n} {verdicts} {verdicts'} ready {r} {central} {pending} {memory} {memory'} count steps told e numbers sized wide =
    let long = count-told told steps.answers in
    let put : take count memory' ≡ (opening s).string = rw steps.leaves (overlay-start (opening s).string memory count (sym long)) in
    let at : Step → Kept = λ step. record { device = record { step = step }; central = state_of (start_in n) pending; buffer = buffer; string = (opening s).string } in
    let kept : starting s pending buffer n ≡ kept_in (record { device = r.state; central = start_in n; count = count; standing = Open }) buffer pending memory' =
    rw put (ap at (sym steps.state)) in
    subst (λ c. Begins s (record { device = r.state; central = c; count = count; standing = Open }) buffer pending memory' verdicts') (sym e)
    (record {
      sound = ready.sound;
      holds = subst (Holds s (start (inputs_in s buffer n))) kept (starts s pending buffer n (output (decode_in buffer n)) ready.read);
      sized = sized;
      inside = told-inside (opening s).string memory count long steps.leaves;
      wide = wide;
      numbers = rw (← ready.one_each) numbers;
      said = refl;
      unreported = λ _. refl;
    })

-- ── What the tests make of a call ──

module _ (s : Setup) (buffer : List ℕ) (n : ℕ) (faults : List ℕ) where
  -- what they refuse
  pub call_refused : (room k : ℕ) → count s buffer n faults ≡ refused k → called s buffer n faults room ≡ refused k
  unfolding called
  call_refused room k e = rw (map-refused (λ i. length i.job) (tested s buffer n faults) k e)

  -- they count so many transactions
  module _ (m : ℕ) (counted : count s buffer n faults ≡ done m) where
    -- so they are passed
    p : Passed s buffer n faults m
    p = tested-passed s buffer n faults m counted

    -- the verdict buffer has another size
    pub call_short : (room : ℕ) → (room ≡ m → ⊥) → called s buffer n faults room ≡ refused 1
    unfolding called
    call_short room h = rw (p.made, ← p.counts, ne_eqb room m h)

    -- it has one byte for each
    pub call_done : (room : ℕ) → room ≡ m → called s buffer n faults room ≡ done (played faults (inputs_in s buffer n))
    unfolding called
    call_done room h = rw (p.made, ← p.counts, eq-eqb room m h)

    -- the run may begin
    pub call_ready : {verdicts : List ℕ} → length verdicts ≡ m → Ready s buffer n verdicts
    call_ready h = record { sound = p.sound; read = p.read; one_each = h ∙ p.counts }

-- ── What a call owes ──

-- a refusal leaves all memory
pub runs-refused : {o : Outcome Played} (q : Refusal) {buffer verdicts : List ℕ} → o ≡ refused (refusal_number q) → Runs o (Err q) buffer buffer verdicts verdicts
unfolding stored_in
runs-refused {o} q {buffer} {verdicts} e =
    let none : (p : Played) → o ≡ done p → ⊥ = λ p h. false≢true (cc (e, h)) in
    record { answers = rw e; stored = rw e; judged = rw e (overlay-none verdicts); fair = λ p h. absurd (none p h); demand = λ p h. absurd (none p h); finals = λ p h. absurd (none p h) }

-- a run that is done
pub runs_done : {o : Outcome Played} (faults : List ℕ) {i : Inputs Transactions} {t : Totals} {buffer buffer' verdicts verdicts' : List ℕ} →
    o ≡ done (played faults i) → Plays i (final i (faulted i faults)) t buffer buffer' verdicts' → Legal i → length verdicts ≡ length i.job →
    Runs o (Ok t) buffer buffer' verdicts verdicts'
runs_done {o} faults {i} {verdicts = verdicts} e plays legal h =
    let proved = demand3 i legal in
    let fair = proved.faults_fair faults in
    let same : (p : Played) → o ≡ done p → played faults i ≡ p = λ p q. cc (e, q) in
    let last = final i (faulted i faults) in
    let vs = final_verdicts i (faulted i faults) in
    let each : length vs ≡ length i.job = settled-length (standing_in i last) last.verdicts ∙ (proved.bad_line (faulted i faults) fair).one_each in
    record {
      answers = rw (e, plays.totals);
      stored = rw e plays.stored;
      judged = rw e (plays.numbers ∙ overlay-whole (map verdict_number vs) verdicts (length-map vs verdict_number ∙ each ∙ sym h));
      fair = λ p q. subst (λ (x : Played). Fair x.inputs x.damages) (same p q) fair;
      demand = λ p q. subst (λ (x : Played). Demand3 x.inputs) (same p q) proved;
      finals = λ p q. subst (λ (x : Played). Finals x.inputs) (same p q) (finals i legal);
    }
