-- Every run stops within the bound, whatever the damage: the device's own law says that each reply leaves it fewer transmissions.
use mathlib.Core.Bool.{true}
use mathlib.Core.List.{tail}
use mathlib.Core.Logic.{◌⊎◌, inl, inr}
use mathlib.Core.Path.{◌≡◌, refl, ◌∙◌, ap}
use Prim.Native.Nat.{ℕ, zero, suc, ◌≤◌, ◌<◌}
use native.Mathlib.Omega.{arith}
use Rattle.journal.specs.Encoding.{all_legal}
use Rattle.reply.specs.Reading.{reply_read}
use Rattle.reply.specs.Reading.{Reply}
use Rattle.device.proofs.BoundLaws.{moves_fall, transmissions_bound}
use Rattle.device.proofs.DeviceLaws.{Within, moves-within}
use Rattle.device.specs.Bound.{transmissions_left}
use Rattle.device.specs.declared.state.Step.TheVariants.{Stopped}
use Rattle.demand.specs.Run.{Transit, Damages, next, hit, Inputs, Ends, start, answer, follows, exchange, after, most_transmissions, final}
use Rattle.demand.proofs.RunLaws.{after_rests}

-- a run whose job is legal
module _ {J : Type 0} (i : Inputs J) (good : all_legal i.job ≡ true) where
  -- the transmissions that the device may still make
  abbrev left : Ends J → ℕ
  left e = transmissions_left i.device i.job e.step

  -- its step is in range
  abbrev Ranged : Ends J → Type 0
  Ranged e = Within i.device i.job e.step

  -- the reply that the device reads
  abbrev reply : Transit → Ends J → Reply
  reply d e = reply_read (hit d.back (answer i d.out e))

  -- an exchange leaves the step in range, and fewer to make unless the device has stopped
  pub exchange-falls : (d : Transit) (e : Ends J) → Ranged e → Ranged (exchange i d e) × ((e.step ≡ Stopped) ⊎ (left (exchange i d e) < left e))
  unfolding exchange follows
  exchange-falls d e w = (moves-within i.device i.job good e.step (reply d e) w, moves_fall i.device i.job good e.step (reply d e) w.there)

  -- with so many to make, it has stopped after so many
  after-stops : (n : ℕ) (ds : Damages) (e : Ends J) → Ranged e → left e ≤ n → (after i n ds e).step ≡ Stopped
  unfolding after
  after-stops zero ds e w h = go (exchange-falls (next ds) e w).1
    where
      go : (e.step ≡ Stopped) ⊎ (left (exchange i (next ds) e) < left e) → e.step ≡ Stopped
      go (inl s) = s
      go (inr f) = absurd (omega arith)
  after-stops (suc n) ds e w h = go (exchange-falls (next ds) e w).1 (after-stops n (tail ds) (exchange i (next ds) e) (exchange-falls (next ds) e w).0)
    where
      go : (e.step ≡ Stopped) ⊎ (left (exchange i (next ds) e) < left e) →
          (left (exchange i (next ds) e) ≤ n → (after i n (tail ds) (exchange i (next ds) e)).step ≡ Stopped) → (after i (suc n) ds e).step ≡ Stopped
      go (inl s) k = ap (λ (x : Ends J). x.step) (after_rests i (suc n) ds e s) ∙ s
      go (inr f) k = k (omega arith)

  -- the run stops
  pub run-stops : (ds : Damages) → (final i ds).step ≡ Stopped
  run-stops ds = after-stops (most_transmissions i) ds (start i) (record { range = refl; there = refl }) (transmissions_bound i.device i.job)
