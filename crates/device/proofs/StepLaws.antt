-- The answers of a step and of a start: the tests that both pass through, and what is owed of each outcome.
use Rattle.std.specs.Prelude.{None, Ok, Err, Option, Result, if◌then◌else◌}
use mathlib.Core.Bool.{true, false, not, ◌&&◌, and-eq-true_iff}
use mathlib.Core.List.{List}
use mathlib.Core.Path.{◌≡◌, refl, sym, subst, ap, ◌∙◌}
use Prim.Native.Nat.{ℕ, ◌≤◌}
use borrow.Author.Tests.{le-ltb, leb-true, ltb-false, not-false}
use lib.Dec.{leb, ltb}
use Rattle.line.specs.Answer.{Outcome, done, refused, refusal_number, map_done, and_then, outcome_of, Laid}
use Rattle.line.specs.Password.{password_in_range}
use Rattle.line.specs.declared.answer.Refusal.{Refusal}
use Rattle.line.proofs.OutcomeLaws.{then_done, map-done, map-refused, passed}
use Rattle.line.proofs.OverlayLaws.{overlay-none}
use Rattle.journal.specs.Survey.{survey_of}
use Rattle.journal.specs.Walk.{decode}
use Rattle.journal.specs.declared.record.Located.{Located}
use Rattle.reply.specs.Reading.{reply_read}
use Rattle.reply.specs.declared.remarks.Remarks.{Remarks}
use Rattle.device.specs.Inner.{transaction_of}
use Rattle.device.specs.Reaction.{Move, goes, first, moves}
use Rattle.device.specs.Step.{settings_in_range, step_in_range, cuts_all, exists, Sent, sent, tested, stepped, started, standing_of, answered, StepsShowing}
use Rattle.device.specs.declared.settling.Standing.{Standing}
use Rattle.device.specs.declared.settling.Standing.TheVariants.{Open}
use Rattle.device.specs.declared.state.Settings.{Settings}
use Rattle.device.specs.declared.state.State.{State}
use Rattle.device.specs.declared.state.Step.{Step}
use Rattle.device.specs.declared.state.Step.TheVariants.{Opening, Stopped}
use Rattle.device.specs.declared.state.Stepped.{Stepped}

-- ── What is owed ──

-- a refusal leaves state and memory
pub steps-refused : {o : Outcome Sent} {remarks : Option Remarks} {r : Stepped} (w : Result ℕ Refusal) (step : Step) (n : ℕ) (out : List ℕ) →
    o ≡ refused n → outcome_of w ≡ refused n → r ≡ answered w Open None (goes step) → StepsShowing o step remarks r out out
steps-refused w step n out e a q =
    rw (q, e) (record {
      steps = record { answers = a; state = refl; gave = refl; numbers = refl; reports = refl; stands = refl; leaves = overlay-none out };
      shows = refl;
    })

-- a move is answered with the count of the string that was put out
pub steps-done : {o : Outcome Sent} {remarks : Option Remarks} {r : Stepped} {standing : Standing} (x : Sent) (step : Step) (n : ℕ) (out after : List ℕ) →
    o ≡ done x → Laid x.string n out after → standing ≡ standing_of step (done x) → r ≡ answered (Ok n) standing remarks x.move → StepsShowing o step remarks r out after
steps-done x step n out after e d s q =
    let counts = d.counts in
    rw (q, e) (record {
      steps = record { answers = cc; state = refl; gave = refl; numbers = refl; reports = refl; stands = s; leaves = d.leaves };
      shows = refl;
    })

-- a move that was sent is what the outcome asks
pub steps-sent : {o : Outcome Sent} (settings : Settings) (ts : List (List ℕ)) {m m' : Move} {step : Step} {remarks : Option Remarks} {r : Stepped} {out after : List ℕ} →
    o ≡ done (sent settings ts m') → m ≡ m' → StepsShowing (done (sent settings ts m)) step remarks r out after → StepsShowing o step remarks r out after
steps-sent settings ts {step = step} {remarks = remarks} {r = r} {out = out} {after = after} e moved w =
    rw e (subst (λ m. StepsShowing (done (sent settings ts m)) step remarks r out after) moved w)

-- settings in range: a password, and the retry limit
pub settings_parts : (s : Settings) → settings_in_range s ≡ true → (password_in_range s.password ≡ true) × (s.retries ≤ 9)
settings_parts s h =
    let (password, retries) = (and-eq-true_iff (password_in_range s.password) (leb s.retries 9)).0 h in
    (password, leb-true s.retries 9 retries)

-- ── The tests ──

-- settings and state in range, and room for a string
module _ (settings : Settings) (step : Step) (job : List ℕ) (room : ℕ) (ranged : settings_in_range settings ≡ true) (kept : step_in_range settings step ≡ true) (fits : 256 ≤ room) where
  -- the job decides
  tested-job : tested settings step job room ≡
      and_then (decode job) (λ ts. if not (cuts_all settings.way ts) then refused 2 else if not (exists settings ts step) then refused 9 else done ts)
  unfolding tested
  tested-job = rw (ranged, kept, le-ltb room 256 fits)

  -- a job that is not well formed
  pub tested_malformed : (k : ℕ) → decode job ≡ refused k → tested settings step job room ≡ refused k
  tested_malformed k e = tested-job ∙ rw e

  -- a job of these transactions
  module _ (ts : List (List ℕ)) (read : decode job ≡ done ts) where
    -- with a field too long for the way
    pub tested_uncut : cuts_all settings.way ts ≡ false → tested settings step job room ≡ refused 2
    tested_uncut h = tested-job ∙ rw (read, h)

    -- that the way can cut
    module _ (cut : cuts_all settings.way ts ≡ true) where
      -- without the place
      pub tested-nowhere : exists settings ts step ≡ false → tested settings step job room ≡ refused 9
      tested-nowhere h = tested-job ∙ rw (read, cut, h)

      -- with the place
      pub tested-there : exists settings ts step ≡ true → tested settings step job room ≡ done ts
      tested-there h = tested-job ∙ rw (read, cut, h)

-- what has passed
pub record Passes (settings : Settings) (step : Step) (job : List ℕ) (room : ℕ) (ts : List (List ℕ)) : Type 0 where
  pub password : password_in_range settings.password ≡ true
  pub limit : settings.retries ≤ 9
  pub range : step_in_range settings step ≡ true
  pub fits : 256 ≤ room
  pub read : decode job ≡ done ts
  pub cut : cuts_all settings.way ts ≡ true
  pub there : exists settings ts step ≡ true

-- all tests, where none refuses
pub tested-passes : (settings : Settings) (step : Step) (job : List ℕ) (room : ℕ) (ts : List (List ℕ)) → tested settings step job room ≡ done ts → Passes settings step job room ts
unfolding tested
tested-passes settings step job room ts h =
    let (tests, h₁) = passed (not (settings_in_range settings && step_in_range settings step)) _ _ _ h in
    let (settled, range) = (and-eq-true_iff (settings_in_range settings) (step_in_range settings step)).0 (not-false _ tests) in
    let (fits, h₂) = passed (ltb room 256) _ _ _ h₁ in
    let (us, read, h₃) = then_done (decode job) _ ts h₂ in
    let (cut, h₄) = passed (not (cuts_all settings.way us)) _ _ _ h₃ in
    let (there, h₅) = passed (not (exists settings us step)) _ _ _ h₄ in
    let same : us ≡ ts = cc in
    record {
      password = (settings_parts settings settled).0;
      limit = (settings_parts settings settled).1;
      range = range;
      fits = ltb-false room 256 fits;
      read = rw same at read;
      cut = rw same at (not-false (cuts_all settings.way us) cut);
      there = rw same at (not-false (exists settings us step) there);
    }

-- a survey of the job, once the tests are passed
module _ (settings : Settings) (step : Step) (job : List ℕ) (room : ℕ) {r : Result Located Refusal} (e : outcome_of r ≡ map_done (survey_of (transaction_of step)) (tested settings step job room)) where
  -- the transactions of a job that has passed, and what was found of them
  pub surveyed_passes : {found : Located} → r ≡ Ok found →
      (ts : List (List ℕ)) × (tested settings step job room ≡ done ts) × Passes settings step job room ts × (survey_of (transaction_of step) ts ≡ found)
  surveyed_passes {found} h =
      let (ts, whole, same) = map-done _ (tested settings step job room) found (sym e ∙ ap outcome_of h) in
      (ts, whole, tested-passes settings step job room ts whole, same)

  -- or the refusal
  pub surveyed_refused : {refusal : Refusal} → r ≡ Err refusal → tested settings step job room ≡ refused (refusal_number refusal)
  surveyed_refused {refusal} h = map-refused _ (tested settings step job room) (refusal_number refusal) (sym e ∙ ap outcome_of h)

-- ── A step and a start ──

module _ (s : State) (settings : Settings) (job reply : List ℕ) (room : ℕ) where
  -- a step is refused where the tests refuse
  pub stepped-refused : (k : ℕ) → tested settings s.step job room ≡ refused k → stepped s settings job reply room ≡ refused k
  unfolding stepped
  stepped-refused k e = rw e

  -- and done where they pass
  pub stepped-done : (ts : List (List ℕ)) → tested settings s.step job room ≡ done ts →
      stepped s settings job reply room ≡ done (sent settings ts (moves settings ts s.step (reply_read reply)))
  unfolding stepped
  stepped-done ts e = rw e

  -- a step that is done has passed them
  pub stepped-passes : (x : Sent) → stepped s settings job reply room ≡ done x →
      (ts : List (List ℕ)) × Passes settings s.step job room ts × (sent settings ts (moves settings ts s.step (reply_read reply)) ≡ x)
  unfolding stepped
  stepped-passes x h =
      let (ts, made, e) = map-done _ (tested settings s.step job room) x h in
      (ts, tested-passes settings s.step job room ts made, e)

module _ (settings : Settings) (job : List ℕ) (room : ℕ) where
  -- a start is refused where the tests refuse
  pub started-refused : (k : ℕ) → tested settings Stopped job room ≡ refused k → started settings job room ≡ refused k
  unfolding started
  started-refused k e = rw e

  -- and done where they pass
  pub started-done : (ts : List (List ℕ)) → tested settings Stopped job room ≡ done ts → started settings job room ≡ done (sent settings ts (goes (Opening first)))
  unfolding started
  started-done ts e = rw e
