-- Faults one at a time, as the run's loop meets them; and they are fair damage: a flipped bit 7 makes a byte odd, and a string with an odd byte is recognized by neither end.
use Rattle.std.specs.Prelude.{if◌then◌else◌}
use mathlib.Core.Bool.{Bool, true, false, false≢true, and-eq-true_iff}
use mathlib.Core.List.{List, [], ◌∷◌, map, tail}
use mathlib.Core.Logic.{inl}
use mathlib.Core.Path.{◌≡◌, refl}
use Prim.Native.Nat.{ℕ, zero, suc, ◌<◌, ◌/◌, ◌%◌}
use lib.Dec.{eqb}
use lib.ListN.{get_or}
use Rattle.line.proofs.ParityLaws.{with_byte, with_even}
use Rattle.line.specs.Character.{seven}
use Rattle.line.specs.Parity.{even, with_parity, flip_top}
use Rattle.line.specs.Test.{all}
use Rattle.reply.proofs.GrammarLaws.{flipped_unrecognized}
use Rattle.line.proofs.OutcomeLaws.{choice}
use Rattle.central.proofs.AnswerLaws.{answer-seven}
use Rattle.central.proofs.HearingLaws.{flipped_noise}
use Rattle.central.specs.Reaction.{answer_text}
use Rattle.device.proofs.StringLaws.{string-seven}
use Rattle.demand.specs.Demand.{Legal, Replaced, Unheard, NoReply, FairAt, FairFor, Fair}
use Rattle.demand.specs.Faults.{garbled, damage, damages, damages_from, faulted}
use Rattle.demand.specs.Run.{Damage, whole, other, hit, Inputs, Ends, start, string, answer, responds, exchange, after, most_transmissions}
use Rattle.demand.specs.Run as Run
use Rattle.demand.proofs.CentralFollows.{both_idle}
use Rattle.demand.proofs.DeviceFollows.{same-opening, same-exists}
use Rattle.demand.proofs.Model.{ModelEnds}
use Rattle.demand.proofs.RunFollows.{SameEnds, ends, exchange-same}
use Rattle.demand.proofs.RunLaws.{clean-fair}

-- ── A fault at a time ──

-- what arrives of a string that a fault hits
pub hit-fault : (fault : ℕ) (bytes : List ℕ) → hit (damage fault bytes) bytes ≡ (if eqb fault 0 then bytes else if eqb fault 1 then garbled bytes else [])
hit-fault fault [] = choice (λ x. [] ≡ x) (eqb fault 0) (λ _. refl) (λ _. choice (λ x. [] ≡ x) (eqb fault 1) (λ _. refl) (λ _. refl))
hit-fault fault (b ∷ bs) = go (eqb fault 0) (eqb fault 1)
  where
    go : (intact flipped : Bool) →
        hit (if intact then whole else if flipped then other (flip_top b ∷ bs) else Run.nothing) (b ∷ bs) ≡
        (if intact then b ∷ bs else if flipped then flip_top b ∷ bs else [])
    go true flipped = refl
    go false true = refl
    go false false = refl

-- the first of the faults makes the first exchange, and the others those behind it; past their end the fault is 0
pub fault-step : {J : Type 0} (i : Inputs J) (n : ℕ) (faults : List ℕ) (e : Ends J) →
    let e' = exchange i (damages i (get_or faults 0 0) e) e in
    after i (suc n) (damages_from i faults e) e ≡ after i n (damages_from i (tail faults) e') e'
unfolding after damages_from
fault-step i n [] e = refl
fault-step i n (f ∷ fs) e = refl

-- ── Fairness ──

-- a fault does what a garbled string allows
fault_replaced : (P : List ℕ → Type 0) (fault : ℕ) (bytes : List ℕ) → ((b : ℕ) (bs : List ℕ) → bytes ≡ b ∷ bs → P (flip_top b ∷ bs)) → Replaced P (damage fault bytes) bytes
fault_replaced P fault [] h = tt
fault_replaced P fault (b ∷ bs) h =
    let Allowed : Damage → Type 0 = λ d. Replaced P d (b ∷ bs) in
    choice Allowed (eqb fault 0) (λ _. tt) (λ _. choice Allowed (eqb fault 1) (λ _. h b bs refl) (λ _. tt))

-- the first byte of 7-bit values with parity is an even byte
first-even : (text : List ℕ) → all seven text ≡ true → (b : ℕ) (bs : List ℕ) → map with_parity text ≡ b ∷ bs → (b < 0x100) × (even b ≡ true)
unfolding all
first-even [] h b bs e = absurd (false≢true cc)
first-even (c ∷ cs) h b bs e =
    let narrow = ((and-eq-true_iff (seven c) (all seven cs)).0 h).0 in
    let same : with_parity c ≡ b = cc in
    rw (← same) (with_byte c narrow, with_even c narrow)

-- along a run that is not refused
module _ {J : Type 0} (i : Inputs J) (l : Legal i) where
  -- the damage of a fault is fair in one transmission
  pub fault-fair : (fault : ℕ) (e : Ends J) {w : ModelEnds J} → SameEnds i l e w → FairAt i (damages i fault e) e
  fault-fair fault e (ends dev both) =
      let d = damage (fault / 3) (string i e) in
      let narrow = string-seven i.device i.job l.password l.job e.step (same-exists i l.job dev) in
      let x = (responds i d e).answer in
      record {
        unheard = fault_replaced (Unheard e.central.stage) (fault / 3) (string i e)
            (λ b bs h. let (small, even) = first-even _ narrow b bs h in inl (flipped_noise e.central.stage b bs small even));
        no_reply = fault_replaced NoReply (fault % 3) (answer i d e)
            (λ b bs h. let (small, even) = first-even (answer_text x) (answer-seven x) b bs h in flipped_unrecognized b bs small even);
      }

  -- and in so many
  from_fair : (n : ℕ) (faults : List ℕ) (e : Ends J) {w : ModelEnds J} → SameEnds i l e w → FairFor i n (damages_from i faults e) e
  unfolding FairFor damages_from
  from_fair zero faults e alike = tt
  from_fair (suc n) [] e alike = clean-fair i (suc n) e
  from_fair (suc n) (f ∷ fs) e alike =
      let fair = fault-fair f e alike in
      (fair, from_fair n fs (exchange i (damages i f e) e) (exchange-same i l (damages i f e) fair alike))

  -- faults are fair
  pub faults_fair : (faults : List ℕ) → Fair i (faulted i faults)
  faults_fair faults = from_fair (most_transmissions i) faults (start i) (ends same-opening both_idle)
