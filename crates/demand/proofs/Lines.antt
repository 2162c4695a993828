-- A bad line and a clean one: a run with fair damage does what the model's run does, and the model's run is safe.
use mathlib.Core.Bool.{Bool, true, and-eq-true_iff}
use mathlib.Core.List.{List, [], ◌∷◌, map}
use mathlib.Core.Path.{◌≡◌, refl, ◌∙◌}
use Prim.Native.Nat.{ℕ, zero, suc, ◌+◌, ◌≤◌}
use native.Mathlib.Nat.{mul-le-mul_right}
use native.Mathlib.Omega.{arith}
use lib.ListN.{length, take, replicate}
use lib.Seq.{take-length}
use Rattle.line.specs.Transaction.{legal}
use Rattle.journal.specs.Encoding.{all_legal}
use Rattle.central.specs.Reaction.{meets, Central}
use Rattle.device.proofs.BoundLaws.{blocks_alike}
use Rattle.device.specs.Bound.{job_blocks}
use Rattle.device.specs.Reaction.{with_retries, segments_of}
use Rattle.device.specs.declared.state.Step.{Step}
use Rattle.device.specs.declared.state.Step.TheVariants.{Stopped}
use Rattle.device.specs.declared.state.Verdict.{Verdict}
use Rattle.device.specs.declared.state.Verdict.TheVariants.{Unsent}
use Rattle.demand.specs.Clean.{stored, all_judged, matching, clean_verdicts, clean_journal}
use Rattle.demand.specs.Demand.{Legal, Fair, limited, Higher, Kept, shortened, Claim, CleanRun, CleanFirst}
use Rattle.demand.specs.Run.{Damages, Inputs, Ends, start, most_transmissions, final, run}
use Rattle.demand.proofs.CentralFollows.{SameCentral, both_idle, both-logon, both-blocks, both-closed}
use Rattle.demand.proofs.Claim.{WellCut, Safe}
use Rattle.demand.proofs.DeviceFollows.{Same, same-opening, same-logon, same-sending, same_closing, same-stopped}
use Rattle.demand.proofs.Instance.{model, limits, model_laws, legal-cut}
use Rattle.demand.proofs.Model.{CentralPhase, Device, ModelEnds, played, halts_at, told_by, outcome}
use Rattle.demand.proofs.RunFollows.{effects_of, SameEnds, ends, after_same}
use Rattle.demand.proofs.RunLaws.{after-counted, clean-fair}
use Rattle.demand.proofs.Safety.{played-safe, played-kept, played-clean}
use Rattle.demand.proofs.Stops.{run-stops}
use Rattle.demand.proofs.Tests.{branches, device_of}

-- ── What both ends hold at the end ──

module _ {J : Type 0} (i : Inputs J) where
  -- the verdicts are the model's
  same-verdicts : {step : Step} {vs : List Verdict} {d : Device} → Same i step vs d → vs ≡ told_by d
  same-verdicts same-opening = refl
  same-verdicts same-logon = refl
  same-verdicts (same-sending h x) = h.all_are
  same-verdicts (same_closing e) = e
  same-verdicts (same-stopped e) = e

  -- the model's device has stopped where the device has
  same-stops : {step : Step} {vs : List Verdict} {d : Device} → Same i step vs d → step ≡ Stopped → halts_at d ≡ true
  same-stops same-opening h = cc
  same-stops same-logon h = cc
  same-stops (same-sending x c) h = cc
  same-stops (same_closing e) h = cc
  same-stops (same-stopped e) h = refl

  -- the journal is the model's
  same-journal : {c : Central J} {s : CentralPhase} {j : J} → SameCentral i c s j → c.journal ≡ j
  same-journal both_idle = refl
  same-journal (both-logon h) = refl
  same-journal (both-blocks h) = refl
  same-journal both-closed = refl

  -- what both ends hold is what the model's model_ends holds
  pub record Comes (e : Ends J) (w : ModelEnds J) : Type 0 where
    pub stops : e.step ≡ Stopped → halts_at (device_of w) ≡ true
    pub verdicts : e.verdicts ≡ (outcome w).verdicts
    pub journal : e.central.journal ≡ (outcome w).journal

  -- both ends that are the model's come to the same
  pub same-comes : (l : Legal i) {e : Ends J} {w : ModelEnds J} → SameEnds i l e w → Comes e w
  same-comes l (ends dev both) = record { stops = same-stops dev; verdicts = same-verdicts dev; journal = same-journal both }

-- the model's run for a list of damage
abbrev modelled : {J : Type 0} → Inputs J → Damages → ModelEnds J
modelled i ds = played (model i) (limits i) (most_transmissions i) i.job i.journal (map effects_of ds)

-- ── A bad line ──

-- a run that is not refused
module _ {J : Type 0} (i : Inputs J) (l : Legal i) where
  -- with fair damage it comes to what the model's does
  run-comes : (ds : Damages) → Fair i ds → Comes i (final i ds) (modelled i ds)
  unfolding played
  run-comes ds fair = same-comes i l (after_same i l (most_transmissions i) ds fair (ends same-opening both_idle))

  -- and the model's device has stopped
  run_halts : (ds : Damages) → Fair i ds → halts_at (device_of (modelled i ds)) ≡ true
  run_halts ds fair = (run-comes ds fair).stops (run-stops i l.job ds)

  -- its job is well cut
  pub well_cut : WellCut (model i) i.job
  well_cut = legal-cut i i.job l.job

-- a higher limit D allows as many transmissions
pub most_more : {J : Type 0} (i : Inputs J) (d c : ℕ) → i.device.retries ≤ d → most_transmissions i ≤ most_transmissions (limited i d c)
most_more i d c h = rw (blocks_alike (with_retries i.device d) i.device refl i.job) (omega (arith, mul-le-mul_right (job_blocks i.device i.job + 2) h))

-- a run that is not refused, with fair damage
module _ {J : Type 0} (i : Inputs J) (l : Legal i) (ds : Damages) (fair : Fair i ds) where
  -- the verdicts and the journal agree with the clean ones
  run-safe : Safe (model i) i.job i.journal (run i ds).verdicts (run i ds).journal
  run-safe =
      let c = run-comes i l ds fair in
      rw (c.verdicts, c.journal)
      (played-safe (model i) (model_laws i) i.job (well_cut i l) i.journal (limits i) (most_transmissions i) (map effects_of ds) (run_halts i l ds fair))

  -- higher limits keep every decision
  run-kept : (d c : ℕ) → Higher i d c → Fair (limited i d c) ds → Kept (run i ds).verdicts (run (limited i d c) ds).verdicts
  unfolding segments_of
  run-kept d c more fair' n =
      let i' : Inputs J = limited i d c in
      let l' : Legal i' = record { job = l.job; password = l.password } in
      rw ((run-comes i l ds fair).verdicts, (run-comes i' l' ds fair').verdicts)
      (played-kept (model i) (model_laws i) i.job (well_cut i l) i.journal (limits i) (limits i') (most_transmissions i) (most_transmissions i')
      more.device more.central (most_more i d c more.device) (map effects_of ds) (run_halts i l ds fair) (run_halts i' l' ds fair') n)

  -- the claim
  pub claim : Claim i ds
  unfolding clean_verdicts clean_journal
  claim =
      record {
        agrees = run-safe.agrees;
        kept = run-kept;
        one_each = run-safe.one_each;
        stops = run-stops i l.job ds;
        bounded = omega (arith, after-counted i (most_transmissions i) ds (start i));
      }

-- ── A clean line ──

-- the first transactions of a legal job are legal
legal-take : (k : ℕ) (ts : List (List ℕ)) → all_legal ts ≡ true → all_legal (take k ts) ≡ true
unfolding all_legal
legal-take zero ts h = refl
legal-take (suc k) [] h = refl
legal-take (suc k) (t ∷ ts) h =
    let (good, rest) = (and-eq-true_iff (legal t) (all_legal ts)).0 h in
    rw (good, legal-take k ts rest)

-- their verdicts are the first of the job's
judged-take : {J : Type 0} (admits : J → List ℕ → Bool) (put : J → List ℕ → J) (k : ℕ) (journal : J) (ts : List (List ℕ)) →
    all_judged admits put journal (take k ts) ≡ take k (all_judged admits put journal ts)
unfolding all_judged
judged-take admits put zero journal ts = refl
judged-take admits put (suc k) journal [] = refl
judged-take admits put (suc k) journal (t ∷ ts) = rw (judged-take admits put k (stored admits put journal t) ts)

-- so are verdicts that are all unsent
unsent_take : (k : ℕ) (ts : List (List ℕ)) → replicate (length (take k ts)) Unsent ≡ take k (replicate (length ts) Unsent)
unsent_take zero ts = refl
unsent_take (suc k) [] = refl
unsent_take (suc k) (t ∷ ts) = rw (unsent_take k ts)

-- over any journal type
module _ {J : Type 0} (i : Inputs J) where
  -- the clean verdicts of the job's first k
  shortened-verdicts : (k : ℕ) → clean_verdicts (shortened i k) ≡ take k (clean_verdicts i)
  unfolding clean_verdicts
  shortened-verdicts k =
      branches (λ u v. u ≡ take k v) (matching i) (judged-take (meets i.rules) i.rules.storage.put k i.journal i.job) (unsent_take k i.job)

  -- the clean journal of the job's first k
  shortened-journal : (k : ℕ) → clean_journal (shortened i k) (length (take k i.job)) ≡ clean_journal i k
  unfolding clean_journal
  shortened-journal k = rw (take-length (take k i.job))

-- the run with no damage is the clean one
pub clean_run : {J : Type 0} (i : Inputs J) → Legal i → CleanRun i
unfolding clean_verdicts clean_journal
clean_run i l =
    let fair = clean-fair i (most_transmissions i) (start i) in
    let c = run-comes i l [] fair in
    let (verdicts, journal) = played-clean (model i) (model_laws i) i.job (well_cut i l) i.journal (limits i) (most_transmissions i) (run_halts i l [] fair) in
    record { verdicts-clean = c.verdicts ∙ verdicts; journal-clean = c.journal ∙ journal }

-- so it is for the job's first k
pub clean-first : {J : Type 0} (i : Inputs J) → Legal i → (k : ℕ) → CleanFirst i k
clean-first i l k =
    let c = clean_run (shortened i k) (record { job = legal-take k i.job l.job; password = l.password }) in
    record { verdicts-first = c.verdicts-clean ∙ shortened-verdicts i k; journal-first = c.journal-clean ∙ shortened-journal i k }
