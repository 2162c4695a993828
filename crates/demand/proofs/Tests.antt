-- Facts about `if`, and about the count of decided verdicts.
use Rattle.std.specs.Prelude.{if◌then◌else◌}
use mathlib.Core.Bool.{Bool, true, false, ◌&&◌, false≢true}
use mathlib.Core.List.{List, [], ◌∷◌, ◌++◌}
use mathlib.Core.Logic.{inl, inr}
use mathlib.Core.Path.{◌≡◌, refl}
use lib.ListN.{replicate}
use native.Mathlib.Omega.{arith}
use Prim.Native.Nat.{ℕ, zero, suc, ◌+◌}
use Rattle.device.specs.declared.state.Verdict.{Verdict}
use Rattle.device.specs.declared.state.Verdict.TheVariants.{Unsent}
use Rattle.demand.proofs.Model.{Device, ModelEnds, model_ends}
use Rattle.demand.specs.Demand.{decides, decided, Undecided}

-- the device of a model_ends
abbrev pub device_of : {J : Type 0} → ModelEnds J → Device
device_of (model_ends d s j) = d

-- two `if`s, whose second test holds wherever the first does
pub looser : {A : Type 0} (P : A → A → Type 0) (p q q' : Bool) {u v : A} → (q ≡ true → q' ≡ true) → ((z : A) → P z z) → P v u →
    P (if p && q then u else v) (if p && q' then u else v)
looser P false q q' {v = v} h r k = r v
looser P true true true {u = u} h r k = r u
looser P true true false h r k = absurd (false≢true (h refl))
looser P true false true h r k = k
looser P true false false {v = v} h r k = r v

-- two `if`s on one test
pub branches : {A B : Type 0} (P : A → B → Type 0) (c : Bool) {u v : A} {u' v' : B} → P u u' → P v v' → P (if c then u else v) (if c then u' else v')
branches P true h k = h
branches P false h k = k

-- the decisions of two lists joined
pub decided-append : (us vs : List Verdict) → decided (us ++ vs) ≡ decided us + decided vs
unfolding decided
decided-append [] vs = omega arith
decided-append (u ∷ us) vs = go (decides u) (decided-append us vs)
  where
    go : (c : Bool) → decided (us ++ vs) ≡ decided us + decided vs →
        (if c then suc (decided (us ++ vs)) else decided (us ++ vs)) ≡ (if c then suc (decided us) else decided us) + decided vs
    go true e = omega arith
    go false e = e

-- what is all unsent decides nothing
pub decided_unsent : (n : ℕ) → decided (replicate n Unsent) ≡ 0
unfolding decided
decided_unsent zero = refl
decided_unsent (suc n) = decided_unsent n

-- a verdict that is unconfirmed, deferred or unsent decides nothing
pub undecided_open : {v : Verdict} → Undecided v → decides v ≡ false
undecided_open (inl e) = rw e
undecided_open (inr (inl e)) = rw e
undecided_open (inr (inr e)) = rw e
