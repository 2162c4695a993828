-- What agreement with the clean run says of each verdict: those that are decided are the first k, and each of them is the clean one.
use mathlib.Core.Bool.{true, false≢true}
use mathlib.Core.List.{List}
use mathlib.Core.Logic.{◌⊎◌, inl, inr}
use mathlib.Core.Path.{◌≡◌, sym, ◌∙◌, ap}
use Prim.Native.Nat.{ℕ, ◌<◌}
use native.Mathlib.Nat.{eq-or-lt_of_le, lt_of_not-le}
use lib.Seq.{get_or-take}
use Rattle.device.specs.declared.state.Verdict.{Verdict}
use Rattle.device.specs.declared.state.Verdict.TheVariants.{Unsent}
use Rattle.demand.specs.Demand.{Agrees, decides, decided, verdict_at}
use Rattle.demand.proofs.Tests.{undecided_open}

-- verdicts that agree with the clean ones
module _ {J : Type 0} {clean : List Verdict} {journals : ℕ → J} {vs : List Verdict} {j : J} (agrees : Agrees clean journals vs j (decided vs)) where
  -- one of the first k is the clean one
  pub decided-clean : (n : ℕ) → n < decided vs → verdict_at vs n ≡ verdict_at clean n
  decided-clean n h =
      sym (get_or-take (decided vs) vs n Unsent h) ∙ ap (λ (l : List Verdict). verdict_at l n) agrees.first-clean ∙ get_or-take (decided vs) clean n Unsent h

  -- only the first k are decided
  pub decided_early : (n : ℕ) → decides (verdict_at vs n) ≡ true → n < decided vs
  decided_early n e = lt_of_not-le (λ h. go (eq-or-lt_of_le h))
    where
      go : (decided vs ≡ n) ⊎ (decided vs < n) → ⊥
      go (inl q) = false≢true (sym (undecided_open agrees.next-undecided) ∙ ap (λ (k : ℕ). decides (verdict_at vs k)) q ∙ e)
      go (inr h) = false≢true (ap decides (sym (agrees.later_unsent n h)) ∙ e)
