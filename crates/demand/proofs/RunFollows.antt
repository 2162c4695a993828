-- A run does what the model's run does, where its list of damage is fair: whole strings are heard and read as meant, and other bytes are noise.
use Rattle.std.specs.Prelude.{None}
use mathlib.Core.Bool.{Bool, true, false, false≢true, and-eq-true_iff}
use mathlib.Core.List.{List, [], ◌∷◌, map}
use mathlib.Core.Logic.{inl, inr}
use mathlib.Core.Option.{some}
use mathlib.Core.Path.{◌≡◌, refl, sym, ◌∙◌, ap}
use Prim.Native.Nat.{ℕ, zero, suc, ◌≤◌}
use native.Mathlib.Omega.{arith}
use borrow.Author.Tests.{leb-true}
use lib.Dec.{eqb, leb}
use lib.ListN.{length, length-take}
use Rattle.line.specs.Answer.{Outcome, done, refused}
use Rattle.line.specs.Character.{CR, EOT, alphanumeric, seven}
use Rattle.line.specs.Parity.{with_parity, parity_off}
use Rattle.line.specs.Test.{all, same}
use Rattle.block.specs.Block.{Segment, read_block}
use Rattle.reply.proofs.GrammarLaws.{empty-unrecognized, written_read}
use Rattle.reply.specs.Reading.{reply_read}
use Rattle.line.proofs.OutcomeLaws.{choice}
use Rattle.central.proofs.HearingLaws.{heard-empty, sent-heard}
use Rattle.central.specs.Hearing.{Heard, logs_on, heard_block, recognized, heard_text, heard}
use Rattle.central.specs.Hearing as Hearing
use Rattle.central.specs.Reaction.{Answer, nothing, idRequest, acceptance, ack, nak, rs, hangUp, Central, Reaction, reacts, answer_bytes}
use Rattle.central.specs.declared.state.Stage.{Stage}
use Rattle.central.specs.declared.state.Stage.TheVariants.{Idle, Logon, Block, Closed}
use Rattle.device.proofs.StringLaws.{string-short, string-seven, string-some}
use Rattle.device.specs.Reaction.{moves, string_text}
use Rattle.device.specs.declared.state.Report.{Report}
use Rattle.device.specs.declared.state.Step.{Step}
use Rattle.device.specs.declared.state.Step.TheVariants.{Stopped}
use Rattle.device.specs.declared.state.Verdict.{Verdict}
use Rattle.demand.specs.Demand.{Legal, Replaced, Unheard, NoReply, FairAt, FairFor}
use Rattle.demand.specs.Run.{Damage, noted, reported, hit, Transit, Damages, next, Inputs, Ends, answer, responds, follows, exchange, after}
use Rattle.demand.specs.Run as Run
use Rattle.demand.proofs.CentralFollows.{password, Says, says_hello, says_login, says_block, says_bye, SameCentral, SameReply, hears-same, noise-same, silence-same}
use Rattle.demand.proofs.DeviceFollows.{read_as, Same, same-opening, same-logon, same-sending, same_closing, same-stopped, moves-same, same-exists, same_block}
use Rattle.demand.proofs.Messages.{Message, hello, login, bye, carries, Effect, whole, lost, garbled, Effects, effects, arrives, returns}
use Rattle.demand.proofs.Instance.{model, limits}
use Rattle.demand.proofs.Model.{CentralPhase, Response, hears, Device, ModelEnds, model_ends, answered, sent}
use Rattle.demand.proofs.Model as Model

-- ── Damage ──

-- what damage is to the model; no bytes at all are nothing
abbrev pub effect_of : Damage → Effect
effect_of Run.whole = whole
effect_of Run.nothing = lost
effect_of (Run.other []) = lost
effect_of (Run.other (b ∷ bs)) = garbled

-- the damage to one transmission
abbrev pub effects_of : Transit → Effects
effects_of d = effects (effect_of d.out) (effect_of d.back)

-- ── What is heard ──

-- something was heard
abbrev sounds : {stage : Stage} → Heard stage → Bool
sounds Hearing.silence = false
sounds Hearing.noise = true
sounds Hearing.hello = true
sounds Hearing.hello_again = true
sounds (Hearing.logon text) = true
sounds Hearing.bye = true
sounds (Hearing.block g) = true
sounds Hearing.misfit = true

-- the same as a fact
abbrev Sounds : (stage : Stage) → Heard stage → Type 0
Sounds stage h = sounds h ≡ true

-- a text is not silence
recognized-sounds : (stage : Stage) (t : List ℕ) → Sounds stage (recognized stage t)
unfolding recognized
recognized-sounds Idle t = choice (Sounds Idle) (same t (CR ∷ [])) (λ _. refl) (λ _. refl)
recognized-sounds Logon t = choice (Sounds Logon) (same t (CR ∷ [])) (λ _. refl) (λ _. choice (Sounds Logon) (logs_on t) (λ _. refl) (λ _. refl))
recognized-sounds Block t = choice (Sounds Block) (same t (EOT ∷ CR ∷ [])) (λ _. refl) (λ _. go (read_block t))
  where
    go : (o : Outcome Segment) → Sounds Block (heard_block o)
    go (done g) = refl
    go (refused n) = choice (Sounds Block) (eqb n 6) (λ _. refl) (λ _. refl)
recognized-sounds Closed t = refl

-- nor is a string that is not empty
heard-sounds : (stage : Stage) (b : ℕ) (bs : List ℕ) → Sounds stage (heard stage (b ∷ bs))
unfolding heard
heard-sounds stage b bs = go (parity_off (b ∷ bs) 256)
  where
    go : (o : Outcome (List ℕ)) → Sounds stage (heard_text stage o)
    go (done t) = recognized-sounds stage t
    go (refused n) = refl

-- bytes in which nothing is recognized, where there are any, are noise
unheard-noise : (stage : Stage) (b : ℕ) (bs : List ℕ) → Unheard stage (b ∷ bs) → heard stage (b ∷ bs) ≡ Hearing.noise
unheard-noise stage b bs (inl e) = e
unheard-noise stage b bs (inr e) = absurd (false≢true (ap sounds (sym e) ∙ heard-sounds stage b bs))

-- a string that the line carries
module _ {J : Type 0} (i : Inputs J) where
  -- the central does with what arrives what the model's does
  pub arrives-same : (t : List ℕ) → all seven t ≡ true → length t ≤ 256 → 1 ≤ length t → {x : Message} → Says i t x →
      {c : Central J} {s : CentralPhase} {j : J} → SameCentral i c s j → (d : Damage) → Replaced (Unheard c.stage) d (map with_parity t) →
      SameReply i (reacts i.rules c c.stage (heard c.stage (hit d (map with_parity t)))) (hears (model i) (limits i) s j (arrives (effect_of d) x))
  arrives-same [] narrow short filled says both d fair = absurd (omega arith)
  arrives-same (b ∷ bs) narrow short filled says {c = c} both Run.whole fair = rw (sent-heard c.stage (b ∷ bs) narrow short filled) (hears-same i says both)
  arrives-same (b ∷ bs) narrow short filled says {c = c} both Run.nothing fair = rw (heard-empty c.stage) (silence-same i both)
  arrives-same (b ∷ bs) narrow short filled says {c = c} both (Run.other []) fair = rw (heard-empty c.stage) (silence-same i both)
  arrives-same (b ∷ bs) narrow short filled says {c = c} both (Run.other (y ∷ ys)) fair = rw (unheard-noise c.stage y ys fair) (noise-same i both)

-- ── What is read ──

-- an answer is read as meant
answer-read : (x : Answer) → reply_read (answer_bytes x) ≡ read_as x
answer-read nothing = empty-unrecognized
answer-read idRequest = written_read.id_request-read
answer-read acceptance = written_read.acceptance-read
answer-read ack = written_read.ack-read
answer-read nak = written_read.nak-read
answer-read rs = written_read.rs-read
answer-read hangUp = written_read.eot-read

-- whole strings arrive
hit-whole : (bytes : List ℕ) → hit Run.whole bytes ≡ bytes
hit-whole [] = refl
hit-whole (b ∷ bs) = refl

-- where nothing arrives nothing is read
lost_unrecognized : (bytes : List ℕ) → reply_read (hit Run.nothing bytes) ≡ None
lost_unrecognized [] = empty-unrecognized
lost_unrecognized (b ∷ bs) = empty-unrecognized

-- nor is other bytes
other-unrecognized : (others bytes : List ℕ) → Replaced NoReply (Run.other others) bytes → reply_read (hit (Run.other others) bytes) ≡ None
other-unrecognized others [] fair = empty-unrecognized
other-unrecognized others (b ∷ bs) fair = fair

-- the device reads what arrives of an answer as the model does
returns-same : (x : Answer) (d : Damage) → Replaced NoReply d (answer_bytes x) → reply_read (hit d (answer_bytes x)) ≡ read_as (returns (effect_of d) x)
returns-same x Run.whole fair = ap reply_read (hit-whole (answer_bytes x)) ∙ answer-read x
returns-same x Run.nothing fair = lost_unrecognized (answer_bytes x)
returns-same x (Run.other []) fair = other-unrecognized [] (answer_bytes x) fair
returns-same x (Run.other (b ∷ bs)) fair = other-unrecognized (b ∷ bs) (answer_bytes x) fair

-- ── A transmission ──

-- the device's password, where a run is not refused
module _ {J : Type 0} (i : Inputs J) (l : Legal i) where
  -- it has at most six characters
  pub short : length (password i) ≤ 6
  short =
      let n = i.device.password.length in
      rw length-take (omega (arith, leb-true n 6 ((and-eq-true_iff (leb n 6) (all alphanumeric (password i))).0 l.password).0))

  -- letters and digits
  pub plain : all alphanumeric (password i) ≡ true
  plain = ((and-eq-true_iff (leb i.device.password.length 6) (all alphanumeric (password i))).0 l.password).1

-- a run that is not refused
module _ {J : Type 0} (i : Inputs J) (l : Legal i) where
  -- both ends are the model's
  pub data SameEnds : Ends J → ModelEnds J → Type 0 where
    ends : {e : Ends J} {d : Device} {s : CentralPhase} {j : J} → Same i e.step e.verdicts d → SameCentral i e.central s j → SameEnds e (model_ends d s j)

  -- the central's answer to a string, as the device reads it
  answer-same : (d : Damage) {x : Reaction J} {r : Response J} → Replaced NoReply d (answer_bytes x.answer) → SameReply i x r →
      reply_read (hit d (answer_bytes x.answer)) ≡ read_as (returns (effect_of d) r.answer)
  answer-same d {x} fair same = returns-same x.answer d fair ∙ ap (λ y. read_as (returns (effect_of d) y)) same.1

  -- and what it does with it
  answered-same : (d : Damage) (e : Ends J) (n : ℕ) (x : Reaction J) (r : Response J) {v : Device} → Same i e.step e.verdicts v →
      Replaced NoReply d (answer_bytes x.answer) → SameReply i x r →
      let m = moves i.device i.job e.step (reply_read (hit d (answer_bytes x.answer))) in
      SameEnds (record { step = m.next; verdicts = noted m.given e.verdicts; report = reported m.report e.report; central = x.next; transmissions = n })
      (answered (model i) (limits i) (effect_of d) v r)
  unfolding answered
  answered-same d e n x r dev fair same =
      ends (rw (← (answer-same d fair same)) at (moves-same i l.job (returns (effect_of d) r.answer) dev)) same.0

  -- a string that says x
  module _ (d : Transit) (e : Ends J) (x : Message) {v : Device} {s : CentralPhase} {j : J} (moving : e.step ≡ Stopped → ⊥)
      (says : Says i (string_text i.device i.job e.step) x) (fair : FairAt i d e) (dev : Same i e.step e.verdicts v) (both : SameCentral i e.central s j) where
    -- what the model's central does with what arrives of it
    abbrev response : Response J
    response = hears (model i) (limits i) s j (arrives (effect_of d.out) x)

    -- the central does the same
    responds-same : SameReply i (responds i d.out e) response
    unfolding responds
    responds-same =
        let there = same-exists i l.job dev in
        let narrow = string-seven i.device i.job l.password l.job e.step there in
        let fits = string-short i.device i.job l.password l.job e.step there in
        let filled = string-some i.device i.job e.step moving in
        arrives-same i _ narrow fits filled says both d.out fair.unheard

    -- the device reads what the model's does
    pub reads_same : reply_read (hit d.back (answer i d.out e)) ≡ read_as (returns (effect_of d.back) response.answer)
    reads_same = answer-same d.back fair.no_reply responds-same

    -- both ends are the model's behind it
    pub sent-same : SameEnds (exchange i d e) (sent (model i) (limits i) (effects_of d) v s j (some x))
    unfolding exchange follows sent
    sent-same = answered-same d.back e _ _ _ dev fair.no_reply responds-same

  -- a device that has stopped puts out no string: nothing moves
  stopped-same : (d : Transit) (vs : List Verdict) (shown : Report) (c : Central J) (n : ℕ) {v : Device} {s : CentralPhase} {j : J} → Same i Stopped vs v → SameCentral i c s j →
      SameEnds (exchange i d (record { step = Stopped; verdicts = vs; report = shown; central = c; transmissions = n })) (model_ends v s j)
  unfolding exchange responds follows heard reacts moves
  stopped-same d vs shown c n dev both = ends dev both

  -- a step of the device, and what the model's device transmits
  stepped_same : (d : Transit) {step : Step} {vs : List Verdict} (shown : Report) (c : Central J) (n : ℕ) {v : Device} {s : CentralPhase} {j : J} → Same i step vs v →
      let e : Ends J = record { step = step; verdicts = vs; report = shown; central = c; transmissions = n } in
      FairAt i d e → SameCentral i c s j → SameEnds (exchange i d e) (Model.exchange (model i) (limits i) (effects_of d) (model_ends v s j))
  unfolding Model.exchange sent
  stepped_same d shown c n same-opening fair both = sent-same d _ hello (λ e. absurd (false≢true cc)) says_hello fair same-opening both
  stepped_same d shown c n same-logon fair both = sent-same d _ login (λ e. absurd (false≢true cc)) (says_login (short i l) (plain i l)) fair same-logon both
  stepped_same d shown c n (same-sending {b} h x) fair both =
      let (block, fits, right) = same_block i l.job h x in
      sent-same d _ (carries b) (λ e. absurd (false≢true cc)) (rw block (says_block b fits right)) fair (same-sending h x) both
  stepped_same d shown c n (same_closing e) fair both = sent-same d _ bye (λ e. absurd (false≢true cc)) says_bye fair (same_closing e) both
  stepped_same d shown c n (same-stopped {vs} e) fair both = stopped-same d vs shown c n (same-stopped e) both

  -- one transmission
  pub exchange-same : (d : Transit) {e : Ends J} {w : ModelEnds J} → FairAt i d e → SameEnds e w → SameEnds (exchange i d e) (Model.exchange (model i) (limits i) (effects_of d) w)
  exchange-same d {e} fair (ends dev both) = stepped_same d e.report e.central e.transmissions dev fair both

  -- ── The run ──

  -- so many transmissions
  pub after_same : (n : ℕ) (ds : Damages) {e : Ends J} {w : ModelEnds J} → FairFor i n ds e → SameEnds e w →
      SameEnds (after i n ds e) (Model.run (model i) (limits i) n (map effects_of ds) w)
  unfolding after FairFor Model.run
  after_same zero ds fair alike = alike
  after_same (suc n) [] fair alike = after_same n [] fair.1 (exchange-same (record { out = Run.whole; back = Run.whole }) fair.0 alike)
  after_same (suc n) (d ∷ ds) fair alike = after_same n ds fair.1 (exchange-same d fair.0 alike)
