-- `test` meets its contract: each return is the case of `tested` that the tests before it leave; the survey says what it found where all pass.
use Rattle.std.specs.Prelude.{Result, Ok}
use mathlib.Core.Bool.{Bool}
use mathlib.Core.List.{List}
use mathlib.Core.Path.{◌≡◌, sym, ap, ◌∙◌}
use Prim.Native.Nat.{ℕ}
use borrow.Author.Tests.{lt-ltb}
use lib.ListN.{length, take, drop}
use Rattle.line.specs.Answer.{done, map_done, outcome_of, output}
use Rattle.line.specs.declared.answer.Refusal.{Refusal}
use Rattle.line.proofs.OutcomeLaws.{map-done, map-refused}
use Rattle.journal.specs.Survey.{survey_of}
use Rattle.journal.specs.Walk.{decode}
use Rattle.journal.specs.declared.record.Located.{Located}
use Rattle.segmentation.specs.declared.way.Way.{Way}
use Rattle.device.specs.Inner.{SendsOf, transaction_of}
use Rattle.device.specs.Step.{cuts_all, exists, tested}
use Rattle.device.specs.declared.state.Settings.{Settings}
use Rattle.device.specs.declared.state.Step.{Step}
use Rattle.device.proofs.StepLaws.{tested_malformed, tested-nowhere, tested-there, tested_uncut}
use Rattle.device.proofs.WaitLaws.{here-lies, sends-own}
use Rattle.device.proofs.step.test.Goals as goal

-- the job was read, and surveyed at the step's transaction
surveyed : (job : List ℕ) {from at : ℕ} {r : Result Located Refusal} {found : Located} → at ≡ from → outcome_of r ≡ map_done (survey_of at) (decode job) → r ≡ Ok found →
    (ts : List (List ℕ)) × (decode job ≡ done ts) × (survey_of from ts ≡ found)
surveyed job same e found = map-done _ (decode job) _ (rw (← same, ← e, found))

-- the way was asked whether it can cut the job
asked : (way : Way) (job : List ℕ) {ts : List (List ℕ)} {cuts told : Bool} → decode job ≡ done ts → cuts ≡ cuts_all way (output (decode job)) → cuts ≡ told → cuts_all way ts ≡ told
asked way job read e told = sym (e ∙ ap (λ o. cuts_all way (output o)) read) ∙ told

-- the step's transaction lies where it says, so its place was looked for in the job
looked : (settings : Settings) (step : Step) (job : List ℕ) {ts : List (List ℕ)} {found : Located} {info : List ℕ} {there told : Bool} →
    decode job ≡ done ts → survey_of (transaction_of step) ts ≡ found → info ≡ take found.here.length (drop found.here.start job) →
    ((ts : List (List ℕ)) → length ts ≡ found.count → SendsOf ts step info → there ≡ exists settings ts step) → there ≡ told → exists settings ts step ≡ told
looked settings step job {ts} read same shows e told =
    let lies = here-lies job ts read (transaction_of step) same in
    sym (e ts (ap (λ found. found.count) same) (sends-own ts step _ (sym lies.holds ∙ sym shows))) ∙ told

pub returns-then-not-settings_in_range : goal.returns-then-not-settings_in_range
unfolding tested
returns-then-not-settings_in_range c = rw (sym c.settings_in_range.ensures ∙ c.if-not-settings_in_range.true)

pub returns-then-not-step_in_range : goal.returns-then-not-step_in_range
unfolding tested
returns-then-not-step_in_range c =
    let ranged = sym c.settings_in_range.ensures ∙ c.if-not-settings_in_range.false in
    rw (ranged, sym c.step_in_range.ensures ∙ c.if-not-step_in_range.true)

pub returns-then-room-lt-ROOM : goal.returns-then-room-lt-ROOM
unfolding tested
returns-then-room-lt-ROOM c =
    let ranged = sym c.settings_in_range.ensures ∙ c.if-not-settings_in_range.false in
    let kept = sym c.step_in_range.ensures ∙ c.if-not-step_in_range.false in
    rw (ranged, kept, lt-ltb _ 256 c.if-room-lt-ROOM.true)

pub returns-in_default : goal.returns-in_default
returns-in_default c =
    let ranged = sym c.settings_in_range.ensures ∙ c.if-not-settings_in_range.false in
    let kept = sym c.step_in_range.ensures ∙ c.if-not-step_in_range.false in
    let told = ap outcome_of c.in_default.is in
    let malformed = map-refused _ (decode _) _ (sym c.survey-surveyed.ensures ∙ told) in
    rw (tested_malformed _ _ _ _ ranged kept c.if-room-lt-ROOM.false _ malformed) told

pub returns-then-not-cuts_all : goal.returns-then-not-cuts_all
returns-then-not-cuts_all c =
    let ranged = sym c.settings_in_range.ensures ∙ c.if-not-settings_in_range.false in
    let kept = sym c.step_in_range.ensures ∙ c.if-not-step_in_range.false in
    let (ts, read, _) = surveyed c.args.job.now c.transaction_of.ensures c.survey-surveyed.ensures c.in-Ok.is in
    let uncut = asked c.args.settings.way c.args.job.now read c.cuts_all.ensures c.if-not-cuts_all.true in
    rw (tested_uncut c.args.settings _ _ _ ranged kept c.if-room-lt-ROOM.false ts read uncut)

pub part-requires : goal.part-requires
part-requires c =
    let (ts, read, same) = surveyed c.args.job.now c.transaction_of.ensures c.survey-surveyed.ensures c.in-Ok.is in
    (here-lies c.args.job.now ts read (transaction_of c.args.step) same).inside

pub returns-then-not-place_exists : goal.returns-then-not-place_exists
returns-then-not-place_exists c =
    let ranged = sym c.settings_in_range.ensures ∙ c.if-not-settings_in_range.false in
    let kept = sym c.step_in_range.ensures ∙ c.if-not-step_in_range.false in
    let (ts, read, same) = surveyed c.args.job.now c.transaction_of.ensures c.survey-surveyed.ensures c.in-Ok.is in
    let cut = asked c.args.settings.way c.args.job.now read c.cuts_all.ensures c.if-not-cuts_all.false in
    let off = looked c.args.settings c.args.step c.args.job.now read same c.part.ensures c.place_exists.ensures c.if-not-place_exists.true in
    rw (tested-nowhere _ _ _ _ ranged kept c.if-room-lt-ROOM.false ts read cut off)

pub returns : goal.returns
returns c =
    let ranged = sym c.settings_in_range.ensures ∙ c.if-not-settings_in_range.false in
    let kept = sym c.step_in_range.ensures ∙ c.if-not-step_in_range.false in
    let (ts, read, same) = surveyed c.args.job.now c.transaction_of.ensures c.survey-surveyed.ensures c.in-Ok.is in
    let cut = asked c.args.settings.way c.args.job.now read c.cuts_all.ensures c.if-not-cuts_all.false in
    let on = looked c.args.settings c.args.step c.args.job.now read same c.part.ensures c.place_exists.ensures c.if-not-place_exists.false in
    rw (tested-there _ _ _ _ ranged kept c.if-room-lt-ROOM.false ts read cut on) (sym (ap done same))
