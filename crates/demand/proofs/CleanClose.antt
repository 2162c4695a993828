-- A clean line with the right password: the device stops at the close alone, and that is answered with ESC EOT. So the final verdicts are the clean ones, with late too.
use Rattle.std.specs.Prelude.{Some}
use mathlib.Core.Bool.{Bool, true, false, false≢true}
use mathlib.Core.List.{List, [], ◌++◌}
use mathlib.Core.Path.{◌≡◌, refl, sym, subst, ap, ◌∙◌}
use Prim.Native.Nat.{ℕ, zero, suc, ◌+◌}
use lib.Dec.{eqb, ltb}
use lib.ListN.{length}
use Rattle.line.proofs.OutcomeLaws.{choice}
use Rattle.block.specs.Block.{Segment}
use Rattle.reply.specs.declared.Meaning.TheVariants.{Ack, Rs, Eot}
use Rattle.central.specs.Reaction.{Answer, ack, rs, Central}
use Rattle.device.specs.Reaction.{Move, blocks_in, first, gives, goes, moves, onwards, place, sends_next, string_text}
use Rattle.device.proofs.SettlingLaws.{is-stopped}
use Rattle.device.specs.Settling.{is_stopped}
use Rattle.device.specs.declared.state.Place.{Place}
use Rattle.device.specs.declared.state.Report.{Report}
use Rattle.device.specs.declared.state.Report.TheVariants as Reporting
use Rattle.device.specs.declared.state.Settings.{Settings}
use Rattle.device.specs.declared.state.Step.{Step}
use Rattle.device.specs.declared.state.Step.TheVariants.{Opening, Logon, Sending, Stopped}
use Rattle.device.specs.declared.state.Verdict.{Verdict}
use Rattle.device.specs.declared.state.Verdict.TheVariants.{Rejected}
use Rattle.demand.specs.Clean.{matching}
use Rattle.demand.specs.Demand.{Legal}
use Rattle.demand.specs.Run.{Inputs, Ends, Transit, next, reported, exchange, after, follows, final, most_transmissions}
use Rattle.demand.proofs.CentralFollows.{Says, says_hello, says_login, says_block, says_bye, SameCentral, both_idle}
use Rattle.demand.proofs.DeviceFollows.{read_as, Same, same-opening, same-logon, same-sending, same_closing, same-stopped, same_block}
use Rattle.demand.proofs.Instance.{model, limits, model_laws, legal-cut}
use Rattle.demand.proofs.Invariant.{Good, is-opening, is_logging_on, is-sending, is_closing, at_idle, at-logon, at-closed, at-blocks, at_any, good-exchange, reached-start}
use Rattle.demand.proofs.Messages.{Message, Parameters, hello, login, bye, carries, whole, last, refused}
use Rattle.demand.proofs.Model.{CentralPhase, Device, ModelEnds, Response, device, opening, loggingOn, model_ends, hears, takes}
use Rattle.demand.proofs.RunFollows.{SameEnds, ends, exchange-same, plain, reads_same, short}
use Rattle.demand.proofs.RunLaws.{clean-fair-at, stopped_rests}
use Rattle.demand.proofs.Stops.{run-stops}

-- ── Moves that go on ──

-- a move that does not stop
abbrev Goes : Move → Type 0
Goes m = is_stopped m.next ≡ false

-- one that, where it stops, reports ESC EOT
abbrev Leaves : Move → Type 0
Leaves m = is_stopped m.next ≡ true → m.report ≡ Reporting.Close (Some Eot)

-- a move that does not stop leaves nothing to ask
goes_on_lem : (m : Move) → Goes m → Leaves m
goes_on_lem m e h = absurd (false≢true (sym e ∙ h))

-- the first block of a transaction, or the close
onwards-goes : (job : List (List ℕ)) (t : ℕ) → is_stopped (onwards job t) ≡ false
onwards-goes job t = choice (λ step. is_stopped step ≡ false) (ltb t (length job)) (λ _. refl) (λ _. refl)

-- ACK to a block
ack-goes : (settings : Settings) (job : List (List ℕ)) (p : Place) → Leaves (moves settings job (Sending p) (Some Ack))
unfolding moves
ack-goes settings job p =
    goes_on_lem (sends_next settings job p) (choice Goes (eqb (p.block + 1) (blocks_in settings job p.transaction)) (λ _. onwards-goes job (p.transaction + 1)) (λ _. refl))

-- RS to a block
rs-goes : (settings : Settings) (job : List (List ℕ)) (p : Place) → Leaves (moves settings job (Sending p) (Some Rs))
unfolding moves
rs-goes settings job p = goes_on_lem (gives p.transaction Rejected (onwards job (p.transaction + 1))) (onwards-goes job (p.transaction + 1))

-- a block that arrives is answered with one or the other
takes_says : (R : Parameters) (P : Answer → Type 0) → P ack → P rs → (j : R.J) (t : List ℕ) (b : Segment) → P (takes R j t b).answer
unfolding takes
takes_says R P a r j t b =
    let Says : Response R.J → Type 0 = λ x. P x.answer in
    choice Says (refused R j t b) (λ _. r) (λ _. choice Says (last b) (λ _. a) (λ _. a))

-- ── The close ──

-- a run with the right password
module _ {J : Type 0} (i : Inputs J) (l : Legal i) (match : matching i ≡ true) where
  -- no damage
  abbrev clean : Transit
  clean = next []

  -- the model's invariant where there is none
  abbrev Calm : ModelEnds J → Type 0
  Calm = Good (model i) i.job i.journal (Unit {0})

  -- the end that a step, its verdicts and the central make
  abbrev at_step : Step → List Verdict → Report → Central J → ℕ → Ends J
  at_step step vs shown c n = record { step = step; verdicts = vs; report = shown; central = c; transmissions = n }

  -- what holds of the move that a string's answer leads to, as it is meant, holds of the device's: it reads that answer
  follows_meant : (P : Move → Type 0) {step : Step} {vs : List Verdict} (shown : Report) (c : Central J) (n : ℕ) {v : Device} {s : CentralPhase} {j : J} (x : Message) →
      (step ≡ Stopped → ⊥) → Says i (string_text i.device i.job step) x → Same i step vs v → SameCentral i c s j →
      P (moves i.device i.job step (read_as (hears (model i) (limits i) s j x).answer)) →
      P (follows i clean (at_step step vs shown c n))
  unfolding follows
  follows_meant P {step} {vs} shown c n x moving says dev both =
      let e : Ends J = at_step step vs shown c n in
      subst (λ r. P (moves i.device i.job step r)) (sym (reads_same i l clean e x moving says (clean-fair-at i e) dev both))

  -- a device that opens goes on
  opening_stop : {a : ℕ} {vs : List Verdict} (shown : Report) (c : Central J) (n : ℕ) {v : Device} {left : List (List ℕ)} {told : List Verdict} {s : CentralPhase} {j : J} →
      Same i (Opening (place 0 0 a)) vs v → SameCentral i c s j → Calm (model_ends (device (opening a) left told) s j) → (Opening (place 0 0 a) ≡ Stopped → ⊥) →
      Leaves (follows i clean (at_step (Opening (place 0 0 a)) vs shown c n))
  unfolding moves hears
  opening_stop shown c n dev both (is-opening at_idle) moving = follows_meant Leaves shown c n hello moving says_hello dev both (goes_on_lem (goes (Logon first)) refl)
  opening_stop shown c n dev both (is-opening at-logon) moving = follows_meant Leaves shown c n hello moving says_hello dev both (goes_on_lem (goes (Logon first)) refl)
  opening_stop shown c n dev both (is-opening (at-closed q)) moving = absurd (q tt)

  -- so does one that logs on
  logon_stop : {a : ℕ} {vs : List Verdict} (shown : Report) (c : Central J) (n : ℕ) {v : Device} {left : List (List ℕ)} {told : List Verdict} {s : CentralPhase} {j : J} →
      Same i (Logon (place 0 0 a)) vs v → SameCentral i c s j → Calm (model_ends (device (loggingOn a) left told) s j) → (Logon (place 0 0 a) ≡ Stopped → ⊥) →
      Leaves (follows i clean (at_step (Logon (place 0 0 a)) vs shown c n))
  unfolding moves hears
  logon_stop shown c n dev both is_logging_on moving =
      follows_meant Leaves shown c n login moving (says_login (short i l) (plain i l)) dev both (rw match (goes_on_lem (goes (onwards i.job 0)) (onwards-goes i.job 0)))

  -- wherever it is, a device that stops reports ESC EOT
  clean_stop : {step : Step} {vs : List Verdict} (shown : Report) (c : Central J) (n : ℕ) {v : Device} {s : CentralPhase} {j : J} →
      Same i step vs v → SameCentral i c s j → Calm (model_ends v s j) → (step ≡ Stopped → ⊥) →
      Leaves (follows i clean (at_step step vs shown c n))
  unfolding moves hears
  clean_stop shown c n same-opening both g moving = opening_stop shown c n same-opening both g moving
  clean_stop shown c n same-logon both g moving = logon_stop shown c n same-logon both g moving
  clean_stop shown c n (same-sending {n = t} {k = k} {a = a} {b = b} x y) both (is-sending {p = p} {j = j} m r u q) moving =
      let (block, fits, right) = same_block i l.job x y in
      follows_meant Leaves shown c n (carries b) moving (rw block (says_block b fits right)) (same-sending x y) both
      (takes_says (model i) (λ z. Leaves (moves i.device i.job (Sending (place t k a)) (read_as z))) (ack-goes i.device i.job (place t k a)) (rs-goes i.device i.job (place t k a)) j (p ++ b.info) b)
  clean_stop shown c n (same_closing {told = told} e) both (is_closing at-blocks r) moving =
      follows_meant Leaves shown c n bye moving says_bye (same_closing {told = told} {left = []} e) both (λ h. refl)
  clean_stop shown c n (same_closing e) both (is_closing (at_any q) r) moving = absurd (q tt)
  clean_stop shown c n (same-stopped e) both g moving = absurd (moving refl)

  -- ── The run ──

  -- a device that has stopped has reported ESC EOT
  abbrev Sure : Ends J → Type 0
  Sure e = is_stopped e.step ≡ true → e.report ≡ Reporting.Close (Some Eot)

  -- each exchange keeps it
  sure_exchange : {e : Ends J} {w : ModelEnds J} → SameEnds i l e w → Calm w → Sure e → Sure (exchange i clean e)
  unfolding exchange
  sure_exchange {e} (ends dev both) g sure = go (is_stopped e.step) refl
    where
      go : (b : Bool) → is_stopped e.step ≡ b → Sure (exchange i clean e)
      go true h = subst Sure (sym (stopped_rests i clean e (is-stopped e.step h))) sure
      go false h = λ stops.
          let moving : e.step ≡ Stopped → ⊥ = λ q. false≢true (sym h ∙ ap is_stopped q) in
          ap (λ r. reported r e.report) (clean_stop e.report e.central e.transmissions dev both g moving stops)

  -- so does every run
  sure_after : (n : ℕ) {e : Ends J} {w : ModelEnds J} → SameEnds i l e w → Calm w → Sure e → Sure (after i n [] e)
  unfolding after
  sure_after zero alike g sure = sure
  sure_after (suc n) {e} alike g sure =
      let reached = reached-start (model i) i.job i.journal (legal-cut i i.job l.job) in
      sure_after n (exchange-same i l clean (clean-fair-at i e) alike) (good-exchange (model i) i.job i.journal (Unit {0}) (model_laws i) (limits i) reached whole whole tt tt g) (sure_exchange alike g sure)

  -- the close confirms
  pub clean-confirms : (final i []).report ≡ Reporting.Close (Some Eot)
  clean-confirms = sure_after (most_transmissions i) (ends same-opening both_idle) (is-opening at_idle) (λ h. absurd (false≢true h)) (rw (run-stops i l.job []))
