-- The model is safe: every job that is well cut is played as the clean run does as far as it goes, from every journal and under every limits.
use mathlib.Core.Bool.{Bool, true, false, false≢true}
use mathlib.Core.List.{List, [], ◌++◌, append-nil}
use mathlib.Core.Logic.{◌⊎◌, inl, inr}
use mathlib.Core.Path.{◌≡◌, refl, sym, ◌∙◌, ap}
use lib.ListN.{length, get_or, replicate}
use lib.Seq.{take-length}
use native.Mathlib.Omega.{arith}
use Prim.Native.Nat.{ℕ, ◌≤◌}
use Rattle.device.specs.declared.state.Verdict.{Verdict}
use Rattle.device.specs.declared.state.Verdict.TheVariants.{Unsent}
use Rattle.demand.proofs.Messages.{Parameters, Limits, Effects}
use Rattle.demand.proofs.Model.{device, ModelEnds, model_ends, played, halts_at, outcome}
use Rattle.demand.specs.Clean.{all_judged}
use Rattle.demand.proofs.CleanModel.{all_judged_by, verdicts_by, journal_by}
use Rattle.demand.proofs.Claim.{Laws, WellCut, Safe}
use Rattle.demand.specs.Demand.{decides, decided}
use Rattle.demand.proofs.Agreement.{decided-clean, decided_early}
use Rattle.demand.proofs.Tests.{device_of, decided-append, decided_unsent}
use Rattle.demand.proofs.HigherLimits.{count, decides-more}
use Rattle.demand.proofs.Invariant.{Ended, quit, broke, undamaged, EndOf, played-end}
use Rattle.demand.proofs.Summary.{summary, clean-verdicts_are, clean-journal-is, unmatched-verdicts, unmatched-journal, safe}

-- the decisions of a model_ends are those of its device
count-is : {J : Type 0} (w : ModelEnds J) → decided (outcome w).verdicts ≡ count (device_of w)
unfolding count
count-is (model_ends (device p left told) s j) = rw decided-append (omega (arith, decided_unsent (length left)))

-- a run from a journal, whose device has stopped after n transmissions
module _ (R : Parameters) (laws : Laws R) (job : List (List ℕ)) (well_cut : WellCut R job) (j : R.J) where
  -- the device has stopped
  abbrev pub Halted : Limits → ℕ → List Effects → Type 0
  Halted L n ms = halts_at (device_of (played R L n job j ms)) ≡ true

  -- the verdicts and the journal agree with the clean ones
  pub played-safe : (L : Limits) (n : ℕ) (ms : List Effects) → Halted L n ms →
      Safe R job j (outcome (played R L n job j ms)).verdicts (outcome (played R L n job j ms)).journal
  played-safe L n ms h = go (played R L n job j ms) (played-end R job j ⊥ laws L well_cut n ms (undamaged R job j ⊥ ms (λ x. x)) h)
    where
      go : (w : ModelEnds R.J) → EndOf R job j ⊥ w → Safe R job j (outcome w).verdicts (outcome w).journal
      go (model_ends (device p left told) s j') e = safe R job j (summary R job j e)

  -- larger limits keep every decision
  pub played-kept : (L L' : Limits) (n n' : ℕ) → L.D ≤ L'.D → L.C ≤ L'.C → n ≤ n' → (ms : List Effects) → Halted L n ms → Halted L' n' ms → (i : ℕ) →
      decides (get_or (outcome (played R L n job j ms)).verdicts i Unsent) ≡ true →
      get_or (outcome (played R L' n' job j ms)).verdicts i Unsent ≡ get_or (outcome (played R L n job j ms)).verdicts i Unsent
  played-kept L L' n n' d c more ms h h' i e =
      let early = decided_early (played-safe L n ms h).agrees i e in
      decided-clean (played-safe L' n' ms h').agrees i
      (omega (arith, decides-more R L L' d c n n' more job j ms, count-is (played R L n job j ms), count-is (played R L' n' job j ms)))
      ∙ sym (decided-clean (played-safe L n ms h).agrees i early)

  -- what a run without damage comes to
  abbrev Clean : List (List ℕ) → List Verdict → R.J → Type 0
  Clean left told j' =
      (told ++ replicate (length left) Unsent ≡ verdicts_by R j job) × (j' ≡ journal_by R j job (length job))

  -- the end of a run without damage is the end of the job
  end_clean : {left : List (List ℕ)} {told : List Verdict} {j' : R.J} → Ended R job j (Unit {0}) left told j' → Clean left told j'
  unfolding all_judged
  end_clean (broke m r e w n) = absurd (n tt)
  end_clean {left} {told} {j'} (quit r q) = go R.match refl
    where
      go : (c : Bool) → R.match ≡ c → Clean left told j'
      go true m =
          let e : job ≡ r.done = r.job_is ∙ rw (q tt m) (append-nil r.done) in (
            rw (q tt m, append-nil, r.told_is, clean-verdicts_are R job j m) (ap (all_judged_by R j) (sym e)),
            rw (clean-journal-is R job j m (length job), take-length, e) r.journal-is,
          )
      go false m = unmatched r.known
        where
          unmatched : (r.done ≡ []) ⊎ (R.match ≡ true) → Clean left told j'
          unmatched (inr m') = absurd (false≢true (sym m ∙ m'))
          unmatched (inl d) =
              let e : job ≡ left = r.job_is ∙ rw d in
              (rw (r.told_is, d, unmatched-verdicts R job j m, e), r.journal-is ∙ rw (d, unmatched-journal R job j m (length job)))

  -- a run without damage is the clean run
  pub played-clean : (L : Limits) (n : ℕ) → Halted L n [] →
      ((outcome (played R L n job j [])).verdicts ≡ verdicts_by R j job) × ((outcome (played R L n job j [])).journal ≡ journal_by R j job (length job))
  played-clean L n h = go (played R L n job j []) (played-end R job j (Unit {0}) laws L well_cut n [] tt h)
    where
      go : (w : ModelEnds R.J) → EndOf R job j (Unit {0}) w → ((outcome w).verdicts ≡ verdicts_by R j job) × ((outcome w).journal ≡ journal_by R j job (length job))
      go (model_ends (device p left told) s j') e = end_clean e
