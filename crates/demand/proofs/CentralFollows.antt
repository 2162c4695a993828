-- The central does what the model's central does: each string of the device is heard as meant, and the reaction is the model's.
use Rattle.std.specs.Prelude.{if◌then◌else◌}
use mathlib.Core.Bool.{Bool, true, false, not, ◌&&◌, ◌||◌, and-false}
use mathlib.Core.List.{List, [], ◌∷◌, ◌++◌}
use mathlib.Core.Logic.{◌≢◌}
use mathlib.Core.Path.{◌≡◌, refl}
use Prim.Native.Nat.{ℕ, suc, ◌≤◌, zero-le}
use native.Mathlib.Numerals.{add-one}
use native.Mathlib.Omega.{arith}
use borrow.Author.Tests.{lt-ltb, le-ltb, eqb-true, eqb-false}
use lib.Dec.{ltb, leb, eqb}
use lib.ListN.{length}
use Rattle.line.proofs.OutcomeLaws.{choice}
use Rattle.line.specs.Answer.{Outcome}
use Rattle.line.specs.Character.{CR, EOT, ESC, STX, alphanumeric, seven}
use Rattle.line.specs.Password.{password_text}
use Rattle.line.specs.Test.{all, same}
use Rattle.block.specs.Block.{Segment, block_of, framed, read_block, right}
use Rattle.block.specs.Segments.{continues, segment_block}
use Rattle.central.proofs.HearingLaws.{logon-heard, block-heard}
use Rattle.central.specs.Hearing.{logs_on, heard_block, recognized}
use Rattle.central.specs.Hearing as Hearing
use Rattle.central.specs.Reaction.{ack, rs, meets, Central, Reaction, at, fails, stores, drops, reacts, takes}
use Rattle.central.specs.declared.state.Stage.{Stage}
use Rattle.central.specs.declared.state.Stage.TheVariants.{Idle, Logon, Block, Closed}
use Rattle.device.specs.Reaction.{logon_text}
use Rattle.demand.specs.Clean.{matching}
use Rattle.demand.specs.Run.{Inputs}
use Rattle.demand.proofs.Messages.{Message, silence, noise, hello, login, bye, carries}
use Rattle.demand.proofs.Instance.{model, limits}
use Rattle.demand.proofs.Model.{CentralPhase, idle, closed, logon, blocks, Response, failure, hears}
use Rattle.demand.proofs.Model as Model
use Rattle.demand.proofs.Tests.{branches}

-- ── What is recognized out of place ──

-- a text that begins with no STX is no block
no_block : (c : ℕ) (t : List ℕ) → eqb c STX ≡ false → heard_block (read_block (c ∷ t)) ≡ Hearing.noise
unfolding read_block framed
no_block c t h =
    let s : List ℕ = c ∷ t in
    let Noise : Outcome Segment → Type 0 = λ o. heard_block o ≡ Hearing.noise in
    choice Noise (not (leb 6 (length s) && leb (length s) 256)) (λ _. refl)
    (λ _. choice Noise (not (all seven s)) (λ _. refl) (λ _. rw h))

-- a text that begins with no ESC is no logon
no_logon : (c : ℕ) (t : List ℕ) → eqb c ESC ≡ false → logs_on (c ∷ t) ≡ false
unfolding same
no_logon c t h = rw (h, and-false)

-- ── The central ──

-- the device's password
abbrev pub password : {J : Type 0} → Inputs J → List ℕ
password i = password_text i.device.password

module _ {J : Type 0} (i : Inputs J) where
  -- a string of the device, and the message it is
  pub data Says : List ℕ → Message → Type 0 where
    says_hello : Says (CR ∷ []) hello
    says_login : length (password i) ≤ 6 → all alphanumeric (password i) ≡ true → Says (logon_text (password i)) login
    says_block : (g : Segment) → length g.info ≤ 250 → right g.info g.ending ≡ true → Says (segment_block g) (carries g)
    says_bye : Says (EOT ∷ CR ∷ []) bye

  -- the central at a stage, and the model's
  pub data SameCentral : Central J → CentralPhase → J → Type 0 where
    both_idle : {j : J} → SameCentral (at Idle [] j) idle j
    both-logon : {f : ℕ} {j : J} → f ≤ i.rules.retries → SameCentral (record { stage = Logon; failures = f; pending = []; journal = j }) (logon f) j
    both-blocks : {f : ℕ} {p : List ℕ} {j : J} → f ≤ i.rules.retries →
        SameCentral (record { stage = Block; failures = f; pending = p; journal = j }) (blocks f p) j
    both-closed : {j : J} → SameCentral (at Closed [] j) closed j

  -- a reaction, and the model's
  abbrev pub SameReply : Reaction J → Response J → Type 0
  SameReply x r = SameCentral x.next r.step r.journal × (x.answer ≡ r.answer)

  -- a failure at a stage, or in the model's step `step`
  fails-same : (stage : Stage) (step : ℕ → CentralPhase) (p : List ℕ) →
      ((f : ℕ) (j : J) → f ≤ i.rules.retries → SameCentral (record { stage = stage; failures = f; pending = p; journal = j }) (step f) j) →
      (f : ℕ) (j : J) → f ≤ i.rules.retries →
      SameReply (fails i.rules (record { stage = stage; failures = f; pending = p; journal = j })) (failure (model i) (limits i) step f j)
  unfolding failure
  fails-same stage step p both f j h = go (eqb f i.rules.retries) refl
    where
      go : (b : Bool) → eqb f i.rules.retries ≡ b →
          SameReply (fails i.rules (record { stage = stage; failures = f; pending = p; journal = j })) (failure (model i) (limits i) step f j)
      go true e = rw (e, le-ltb f i.rules.retries (omega (arith, eqb-true f i.rules.retries e))) (both-closed, refl)
      go false e =
          let n : f ≢ i.rules.retries = eqb-false f i.rules.retries e in
          rw (e, lt-ltb f i.rules.retries (omega arith), add-one) (both (suc f) j (omega arith), refl)

  -- a block that is right: with it the transaction so far is t
  takes_same : (f : ℕ) (p : List ℕ) (j : J) (t : List ℕ) (g : Segment) →
      SameReply (takes i.rules (record { stage = Block; failures = f; pending = p; journal = j }) t (continues g.ending)) (Model.takes (model i) j t g)
  unfolding Model.takes
  takes_same f p j t g = go (ltb i.rules.longest (length t)) (continues g.ending) (meets i.rules j t)
    where
      here : Central J
      here = record { stage = Block; failures = f; pending = p; journal = j }

      refused : Response J
      refused = record { step = blocks 0 []; journal = j; answer = rs }

      go : (over goes_on_lem meet : Bool) →
          SameReply
          (if over then drops here
          else if goes_on_lem then record { next = at Block t j; answer = ack }
          else if meet then stores i.rules here t
          else drops here)
          (if not (not over) || (not goes_on_lem && not meet) then refused
          else if not goes_on_lem then record { step = blocks 0 []; journal = i.rules.storage.put j t; answer = ack }
          else record { step = blocks 0 t; journal = j; answer = ack })
      go true goes_on_lem meet = (both-blocks zero-le, refl)
      go false true meet = (both-blocks zero-le, refl)
      go false false true = (both-blocks zero-le, refl)
      go false false false = (both-blocks zero-le, refl)

  -- the central at a stage that counts failures
  module _ (f : ℕ) (j : J) (h : f ≤ i.rules.retries) where
    -- a failure at Logon
    logon-fails : SameReply (fails i.rules (record { stage = Logon; failures = f; pending = []; journal = j })) (failure (model i) (limits i) logon f j)
    logon-fails = fails-same Logon logon [] (λ f j. both-logon) f j h

    -- a failure at Block
    block-fails : (p : List ℕ) →
        SameReply (fails i.rules (record { stage = Block; failures = f; pending = p; journal = j })) (failure (model i) (limits i) (λ n. blocks n p) f j)
    block-fails p = fails-same Block (λ n. blocks n p) p (λ f j. both-blocks) f j h

    -- a logon at Logon
    logon-same : length (password i) ≤ 6 → all alphanumeric (password i) ≡ true →
        SameReply (reacts i.rules (record { stage = Logon; failures = f; pending = []; journal = j }) Logon (recognized Logon (logon_text (password i))))
        (hears (model i) (limits i) (logon f) j login)
    unfolding reacts hears same
    logon-same l a = rw (logon-heard (password i) l a) (branches SameReply (matching i) (both-blocks zero-le, refl) logon-fails)

    -- a block at Block
    block_same : (p : List ℕ) (g : Segment) → length g.info ≤ 250 → right g.info g.ending ≡ true →
        SameReply (reacts i.rules (record { stage = Block; failures = f; pending = p; journal = j }) Block (recognized Block (segment_block g)))
        (hears (model i) (limits i) (blocks f p) j (carries g))
    unfolding reacts hears
    block_same p g l r = rw (block-heard g.info g.ending l r) (takes_same f p j (p ++ g.info) g)

  -- a string that arrives whole
  pub hears-same : {t : List ℕ} {x : Message} {c : Central J} {s : CentralPhase} {j : J} → Says t x → SameCentral c s j →
      SameReply (reacts i.rules c c.stage (recognized c.stage t)) (hears (model i) (limits i) s j x)
  unfolding reacts hears recognized same block_of read_block
  hears-same says_hello both_idle = (both-logon zero-le, refl)
  hears-same (says_login l a) both_idle = (both_idle, refl)
  hears-same (says_block g l r) both_idle = (both_idle, refl)
  hears-same says_bye both_idle = (both_idle, refl)
  hears-same says_hello (both-logon h) = (both-logon h, refl)
  hears-same (says_login l a) (both-logon {f} {j} h) = logon-same f j h l a
  hears-same (says_block g l r) (both-logon {f} {j} h) = rw (no_logon STX _ refl) (logon-fails f j h)
  hears-same says_bye (both-logon {f} {j} h) = logon-fails f j h
  hears-same says_hello (both-blocks {f} {p} {j} h) = block-fails f j h p
  hears-same (says_login l a) (both-blocks {f} {p} {j} h) = rw (no_block ESC _ refl) (block-fails f j h p)
  hears-same (says_block g l r) (both-blocks {f} {p} {j} h) = block_same f j h p g l r
  hears-same says_bye (both-blocks h) = (both-closed, refl)
  hears-same says_hello both-closed = (both-closed, refl)
  hears-same (says_login l a) both-closed = (both-closed, refl)
  hears-same (says_block g l r) both-closed = (both-closed, refl)
  hears-same says_bye both-closed = (both-closed, refl)

  -- nothing recognized in what arrives
  pub noise-same : {c : Central J} {s : CentralPhase} {j : J} → SameCentral c s j →
      SameReply (reacts i.rules c c.stage Hearing.noise) (hears (model i) (limits i) s j noise)
  unfolding reacts hears
  noise-same both_idle = (both_idle, refl)
  noise-same (both-logon {f} {j} h) = logon-fails f j h
  noise-same (both-blocks {f} {p} {j} h) = block-fails f j h p
  noise-same both-closed = (both-closed, refl)

  -- nothing arrives
  pub silence-same : {c : Central J} {s : CentralPhase} {j : J} → SameCentral c s j →
      SameReply (reacts i.rules c c.stage Hearing.silence) (hears (model i) (limits i) s j silence)
  unfolding reacts hears
  silence-same both = (both, refl)
