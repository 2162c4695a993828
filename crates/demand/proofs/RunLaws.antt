-- Laws of the run itself: it rests once the device has stopped, it counts at most one transmission an exchange, and an empty list of damage is fair.
use mathlib.Core.List.{List, [], ◌∷◌, tail}
use mathlib.Core.Path.{◌≡◌, refl, sym, subst}
use Prim.Native.Nat.{ℕ, zero, suc, ◌+◌, ◌≤◌}
use native.Mathlib.Nat.{add-zero}
use native.Mathlib.Omega.{arith}
use Rattle.central.specs.Hearing.{heard}
use Rattle.central.specs.Reaction.{reacts}
use Rattle.device.specs.Reaction.{moves}
use Rattle.device.specs.declared.state.Step.{Step}
use Rattle.device.specs.declared.state.Step.TheVariants.{Stopped}
use Rattle.demand.specs.Demand.{Replaced, Unheard, NoReply, FairAt, FairFor}
use Rattle.demand.specs.Run.{whole, Transit, Damages, next, Inputs, Ends, string, answer, responds, follows, counted, exchange, after}

-- ── Rest ──

-- both ends with the device at a step
abbrev standing : {J : Type 0} → Ends J → Step → Ends J
standing e step = record { step = step; verdicts = e.verdicts; report = e.report; central = e.central; transmissions = e.transmissions }

-- a stopped device puts out no string
stands : {J : Type 0} (i : Inputs J) (d : Transit) (e : Ends J) → exchange i d (standing e Stopped) ≡ standing e Stopped
unfolding exchange responds follows heard reacts moves
stands i d e = rw add-zero

-- once the device has stopped nothing moves
pub stopped_rests : {J : Type 0} (i : Inputs J) (d : Transit) (e : Ends J) → e.step ≡ Stopped → exchange i d e ≡ e
stopped_rests i d e h = subst (λ step. exchange i d (standing e step) ≡ standing e step) (sym h) (stands i d e)

-- however long the run goes on
pub after_rests : {J : Type 0} (i : Inputs J) (n : ℕ) (ds : Damages) (e : Ends J) → e.step ≡ Stopped → after i n ds e ≡ e
unfolding after
after_rests i zero ds e h = refl
after_rests i (suc n) ds e h = rw (stopped_rests i (next ds) e h) (after_rests i n (tail ds) e h)

-- ── The number of transmissions ──

-- a string counts as at most one
counted-one : (bytes : List ℕ) → counted bytes ≤ 1
counted-one [] = omega arith
counted-one (b ∷ bs) = omega arith

-- so many exchanges are at most so many transmissions
pub after-counted : {J : Type 0} (i : Inputs J) (n : ℕ) (ds : Damages) (e : Ends J) → (after i n ds e).transmissions ≤ e.transmissions + n
unfolding after exchange
after-counted i zero ds e = omega arith
after-counted i (suc n) ds e = omega (arith, after-counted i n (tail ds) (exchange i (next ds) e), counted-one (string i e))

-- ── No damage ──

-- where nothing is replaced, nothing is asked
whole_replaced : (P : List ℕ → Type 0) (bytes : List ℕ) → Replaced P whole bytes
whole_replaced P [] = tt
whole_replaced P (b ∷ bs) = tt

-- a transmission without damage is fair
pub clean-fair-at : {J : Type 0} (i : Inputs J) (e : Ends J) → FairAt i (next []) e
clean-fair-at i e = record { unheard = whole_replaced (Unheard e.central.stage) (string i e); no_reply = whole_replaced NoReply (answer i whole e) }

-- so is an empty list of damage
pub clean-fair : {J : Type 0} (i : Inputs J) (n : ℕ) (e : Ends J) → FairFor i n [] e
unfolding FairFor
clean-fair i zero e = tt
clean-fair i (suc n) e = (clean-fair-at i e, clean-fair i n (exchange i (next []) e))
