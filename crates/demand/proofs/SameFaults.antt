-- The same faults under other limits: what a fault does to the model's run depends on the fault alone and not on the string that it hits, so that two runs over the same faults are two runs of the model over the same effects.
use Rattle.std.specs.Prelude.{if◌then◌else◌}
use mathlib.Core.Bool.{Bool, true, false, false≢true}
use mathlib.Core.List.{List, [], ◌∷◌, map}
use mathlib.Core.Option.{some}
use mathlib.Core.Path.{◌≡◌, refl, sym, subst, ◌∙◌, ap}
use Prim.Native.Nat.{ℕ, zero, suc, ◌≤◌, ◌/◌, ◌%◌}
use native.Mathlib.Omega.{arith}
use lib.Dec.{eqb}
use lib.ListN.{length, length-map}
use Rattle.line.specs.Parity.{flip_top, with_parity}
use Rattle.central.specs.Reaction.{Answer, nothing, idRequest, acceptance, ack, nak, rs, hangUp, Central, answer_bytes}
use Rattle.device.proofs.StringLaws.{string-short, string-seven, string-some}
use Rattle.device.specs.Reaction.{segments_of, string_text}
use Rattle.device.specs.declared.state.Report.{Report}
use Rattle.device.specs.declared.state.Step.{Step}
use Rattle.device.specs.declared.state.Step.TheVariants.{Stopped}
use Rattle.device.specs.declared.state.Verdict.{Verdict}
use Rattle.demand.specs.Demand.{Legal, limited, Higher, Kept}
use Rattle.demand.specs.Faults.{damage, damages, damages_from, faulted}
use Rattle.demand.specs.Run.{Inputs, Ends, string, responds, exchange, after, most_transmissions, final, run}
use Rattle.demand.specs.Run as Run
use Rattle.demand.proofs.CentralFollows.{Says, says_hello, says_login, says_block, says_bye, SameCentral, both_idle}
use Rattle.demand.proofs.Lines.{Comes, same-comes, well_cut, most_more}
use Rattle.demand.proofs.DeviceFollows.{Same, same-opening, same-logon, same-sending, same_closing, same-stopped, same-exists, same_block}
use Rattle.demand.proofs.FaultLaws.{fault-fair}
use Rattle.demand.proofs.Instance.{model, limits, model_laws}
use Rattle.demand.proofs.Messages.{Message, hello, login, bye, carries, Effect, whole, lost, garbled, Effects, effects, arrives, returns}
use Rattle.demand.proofs.Model.{CentralPhase, hears, reads, Device, ModelEnds, model_ends, answered, sent, played, halts_at}
use Rattle.demand.proofs.Model as Model
use Rattle.demand.proofs.RunFollows.{effect_of, short, plain, SameEnds, ends, arrives-same, sent-same, exchange-same, after_same}
use Rattle.demand.proofs.RunLaws.{clean-fair}
use Rattle.demand.proofs.Safety.{played-kept}
use Rattle.demand.proofs.Stops.{run-stops}
use Rattle.demand.proofs.Tests.{device_of}

-- ── What a fault is to the model ──

-- the fault_effect of a fault to a string: 0 whole, 1 garbled, 2 lost
abbrev fault_effect : ℕ → Effect
fault_effect fault = if eqb fault 0 then whole else if eqb fault 1 then garbled else lost

-- the fault_effect to one transmission
abbrev pub fault_effects : ℕ → Effects
fault_effects fault = effects (fault_effect (fault / 3)) (fault_effect (fault % 3))

-- the damage of a fault to a string that is not empty is that fault_effect
effect_is : (fault : ℕ) (bytes : List ℕ) → 1 ≤ length bytes → effect_of (damage fault bytes) ≡ fault_effect fault
effect_is fault [] h = absurd (omega arith)
effect_is fault (b ∷ bs) h = go (eqb fault 0) (eqb fault 1)
  where
    go : (intact flipped : Bool) →
        effect_of (if intact then Run.whole else if flipped then Run.other (flip_top b ∷ bs) else Run.nothing) ≡ (if intact then whole else if flipped then garbled else lost)
    go true flipped = refl
    go false true = refl
    go false false = refl

-- of no answer nothing is read
returns-nothing : (k : Effect) → returns k nothing ≡ nothing
returns-nothing whole = refl
returns-nothing lost = refl
returns-nothing garbled = refl

-- so it is of every answer, an empty one too
answer_effect : (fault : ℕ) (x : Answer) → returns (effect_of (damage fault (answer_bytes x))) x ≡ returns (fault_effect fault) x
answer_effect fault nothing = returns-nothing (effect_of (damage fault (answer_bytes nothing))) ∙ sym (returns-nothing (fault_effect fault))
answer_effect fault idRequest = ap (λ k. returns k idRequest) (effect_is fault (answer_bytes idRequest) (omega arith))
answer_effect fault acceptance = ap (λ k. returns k acceptance) (effect_is fault (answer_bytes acceptance) (omega arith))
answer_effect fault ack = ap (λ k. returns k ack) (effect_is fault (answer_bytes ack) (omega arith))
answer_effect fault nak = ap (λ k. returns k nak) (effect_is fault (answer_bytes nak) (omega arith))
answer_effect fault rs = ap (λ k. returns k rs) (effect_is fault (answer_bytes rs) (omega arith))
answer_effect fault hangUp = ap (λ k. returns k hangUp) (effect_is fault (answer_bytes hangUp) (omega arith))

-- ── A run over faults ──

-- a run that is not refused
module _ {J : Type 0} (i : Inputs J) (l : Legal i) where
  -- a string that a fault hits
  sent-fault : (f : ℕ) (e : Ends J) (x : Message) {v : Device} {s : CentralPhase} {j : J} → (e.step ≡ Stopped → ⊥) →
      Says i (string_text i.device i.job e.step) x → (dev : Same i e.step e.verdicts v) → (both : SameCentral i e.central s j) →
      SameEnds i l (exchange i (damages i f e) e) (sent (model i) (limits i) (fault_effects f) v s j (some x))
  unfolding sent answered responds
  sent-fault f e x {v} {s} {j} moving says dev both =
      let fair = fault-fair i l f e (ends dev both) in
      let there = same-exists i l.job dev in
      let narrow = string-seven i.device i.job l.password l.job e.step there in
      let fits = string-short i.device i.job l.password l.job e.step there in
      let filled = string-some i.device i.job e.step moving in
      let d = damages i f e in
      let text = string_text i.device i.job e.step in
      let first : effect_of d.out ≡ fault_effect (f / 3) = effect_is (f / 3) (string i e) (omega (arith, length-map text with_parity, filled)) in
      let r = hears (model i) (limits i) s j (arrives (effect_of d.out) x) in
      let alike = (arrives-same i _ narrow fits filled says both d.out fair.unheard).1 in
      let read : returns (effect_of d.back) r.answer ≡ returns (fault_effect (f % 3)) r.answer =
      subst (λ y. returns (effect_of d.back) y ≡ returns (fault_effect (f % 3)) y) alike (answer_effect (f % 3) (responds i d.out e).answer) in
      let second : answered (model i) (limits i) (effect_of d.back) v r ≡ answered (model i) (limits i) (fault_effect (f % 3)) v r =
      ap (λ a. model_ends (reads (model i) (limits i) a v) r.step r.journal) read in
      let both-effects = second ∙ ap (λ h. answered (model i) (limits i) (fault_effect (f % 3)) v (hears (model i) (limits i) s j (arrives h x))) first in
      subst (SameEnds i l (exchange i d e)) both-effects (sent-same i l d e x moving says fair dev both)

  -- a step of the device
  stepped-fault : (f : ℕ) {step : Step} {vs : List Verdict} (shown : Report) (c : Central J) (n : ℕ) {v : Device} {s : CentralPhase} {j : J} → Same i step vs v →
      let e : Ends J = record { step = step; verdicts = vs; report = shown; central = c; transmissions = n } in
      SameCentral i c s j → SameEnds i l (exchange i (damages i f e) e) (Model.exchange (model i) (limits i) (fault_effects f) (model_ends v s j))
  unfolding Model.exchange sent
  stepped-fault f shown c n same-opening both = sent-fault f _ hello (λ e. absurd (false≢true cc)) says_hello same-opening both
  stepped-fault f shown c n same-logon both = sent-fault f _ login (λ e. absurd (false≢true cc)) (says_login (short i l) (plain i l)) same-logon both
  stepped-fault f shown c n (same-sending {b} h x) both =
      let (block, fits, right) = same_block i l.job h x in
      sent-fault f _ (carries b) (λ e. absurd (false≢true cc)) (rw block (says_block b fits right)) (same-sending h x) both
  stepped-fault f shown c n (same_closing e) both = sent-fault f _ bye (λ e. absurd (false≢true cc)) says_bye (same_closing e) both
  stepped-fault f shown c n (same-stopped {vs} {told} {left} e) both =
      let here : Ends J = record { step = Stopped; verdicts = vs; report = shown; central = c; transmissions = n } in
      let alike = ends {e = here} (same-stopped {told = told} {left = left} e) both in
      exchange-same i l (damages i f here) (fault-fair i l f here alike) alike

  -- one transmission
  exchange-fault : (f : ℕ) {e : Ends J} {w : ModelEnds J} → SameEnds i l e w → SameEnds i l (exchange i (damages i f e) e) (Model.exchange (model i) (limits i) (fault_effects f) w)
  exchange-fault f {e} (ends dev both) = stepped-fault f e.report e.central e.transmissions dev both

  -- so many transmissions
  pub after_faults : (n : ℕ) (fs : List ℕ) {e : Ends J} {w : ModelEnds J} → SameEnds i l e w →
      SameEnds i l (after i n (damages_from i fs e) e) (Model.run (model i) (limits i) n (map fault_effects fs) w)
  unfolding after damages_from Model.run
  after_faults zero fs alike = alike
  after_faults (suc n) [] {e} alike = after_same i l (suc n) [] (clean-fair i (suc n) e) alike
  after_faults (suc n) (f ∷ fs) alike = after_faults n fs (exchange-fault f alike)

  -- the model's run over the faults
  abbrev over : List ℕ → ModelEnds J
  over faults = played (model i) (limits i) (most_transmissions i) i.job i.journal (map fault_effects faults)

  -- a run over faults comes to what the model's does
  faults_come : (faults : List ℕ) → Comes i (final i (faulted i faults)) (over faults)
  unfolding played
  faults_come faults = same-comes i l (after_faults (most_transmissions i) faults (ends same-opening both_idle))

  -- and the model's device has stopped
  faults_halt : (faults : List ℕ) → halts_at (device_of (over faults)) ≡ true
  faults_halt faults = (faults_come faults).stops (run-stops i l.job (faulted i faults))

-- with higher limits and the same faults what was accepted or rejected gets the same verdict again
pub faults_kept : {J : Type 0} (i : Inputs J) → Legal i → (faults : List ℕ) (d c : ℕ) → Higher i d c →
    Kept (run i (faulted i faults)).verdicts (run (limited i d c) (faulted (limited i d c) faults)).verdicts
unfolding segments_of
faults_kept {J} i l faults d c more n =
    let i' : Inputs J = limited i d c in
    let l' : Legal i' = record { job = l.job; password = l.password } in
    rw ((faults_come i l faults).verdicts, (faults_come i' l' faults).verdicts)
    (played-kept (model i) (model_laws i) i.job (well_cut i l) i.journal (limits i) (limits i') (most_transmissions i) (most_transmissions i')
    more.device more.central (most_more i d c more.device) (map fault_effects faults) (faults_halt i l faults) (faults_halt i' l' faults) n)
