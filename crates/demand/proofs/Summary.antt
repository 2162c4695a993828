-- What the end of a run says of its verdicts and its journal.
use Rattle.std.specs.Prelude.{if◌then◌else◌}
use mathlib.Core.Bool.{Bool, true, false}
use mathlib.Core.List.{List, [], ◌∷◌, ◌++◌, foldl, foldl-append}
use mathlib.Core.Logic.{◌⊎◌, inl, inr}
use mathlib.Core.Path.{◌≡◌, refl, sym, ◌∙◌, ap}
use lib.ListN.{length, take, get_or, replicate, length-append, length-replicate}
use lib.Seq.{append_snoc, take_at, take-append-add, get_or-append-add}
use native.Mathlib.Nat.{add-zero}
use native.Mathlib.Omega.{arith}
use Prim.Native.Nat.{ℕ, zero, suc, ◌+◌, ◌-◌, ◌<◌}
use Rattle.line.proofs.OutcomeLaws.{choice}
use Rattle.device.specs.declared.state.Verdict.{Verdict}
use Rattle.device.specs.declared.state.Verdict.TheVariants.{Unconfirmed, Unsent}
use Rattle.demand.proofs.Messages.{Parameters}
use Rattle.demand.specs.Clean.{all_judged, judged}
use Rattle.demand.proofs.CleanModel.{judged_by, stored_by, all_judged_by, verdicts_by, journal_by}
use Rattle.demand.proofs.Claim.{Safe}
use Rattle.demand.specs.Demand.{Undecided, decides, decided}
use Rattle.demand.proofs.Tests.{decided-append, decided_unsent, undecided_open}
use Rattle.demand.proofs.Invariant.{verdicts-append, Ended, quit, broke}

module _ (R : Parameters) where
  open R use {J, admits, match}

  -- there is a verdict for each transaction
  length-verdicts : (j : J) (ts : List (List ℕ)) → length (all_judged_by R j ts) ≡ length ts
  unfolding all_judged
  length-verdicts j [] = refl
  length-verdicts j (t ∷ ts) = ap suc (length-verdicts (stored_by R j t) ts)

  -- a clean verdict is a decision
  decides_verdict : (j : J) (t : List ℕ) → decides (judged_by R j t) ≡ true
  unfolding judged
  decides_verdict j t = choice (λ (v : Verdict). decides v ≡ true) (admits j t) (λ e. refl) (λ e. refl)

  -- clean verdicts are all decisions
  decided-verdicts : (j : J) (ts : List (List ℕ)) → decided (all_judged_by R j ts) ≡ length ts
  unfolding all_judged decided
  decided-verdicts j [] = refl
  decided-verdicts j (t ∷ ts) = rw (decides_verdict j t) (ap suc (decided-verdicts (stored_by R j t) ts))

  -- the verdicts of the transactions that are not decided, when the first has the verdict v
  abbrev undecided : Verdict → List (List ℕ) → List Verdict
  undecided v [] = []
  undecided v (t ∷ ts) = v ∷ replicate (length ts) Unsent

  -- there is one for each
  length-undecided : (v : Verdict) (ts : List (List ℕ)) → length (undecided v ts) ≡ length ts
  length-undecided v [] = refl
  length-undecided v (t ∷ ts) = ap suc (length-replicate (length ts) Unsent)

  -- none of them is a decision
  decided-undecided : (v : Verdict) → Undecided v → (ts : List (List ℕ)) → decided (undecided v ts) ≡ 0
  unfolding decided
  decided-undecided v e [] = refl
  decided-undecided v e (t ∷ ts) = rw (undecided_open e) (decided_unsent (length ts))

  -- all of them may be unsent
  undecided_unsent : (ts : List (List ℕ)) → replicate (length ts) Unsent ≡ undecided Unsent ts
  undecided_unsent [] = refl
  undecided_unsent (t ∷ ts) = refl

  -- each of what is all unsent is unsent
  get_d_unsent : (n i : ℕ) → get_or (replicate n Unsent) i Unsent ≡ Unsent
  get_d_unsent zero i = refl
  get_d_unsent (suc n) zero = refl
  get_d_unsent (suc n) (suc i) = get_d_unsent n i

  -- the first is no decision
  first-undecided : (v : Verdict) → Undecided v → (ts : List (List ℕ)) → Undecided (get_or (undecided v ts) 0 Unsent)
  first-undecided v e [] = inr (inr refl)
  first-undecided v e (t ∷ ts) = e

  -- the later ones are unsent
  later-undecided : (v : Verdict) (ts : List (List ℕ)) (i : ℕ) → get_or (undecided v ts) (suc i) Unsent ≡ Unsent
  later-undecided v [] i = refl
  later-undecided v (t ∷ ts) i = get_d_unsent (length ts) i

  module _ (job : List (List ℕ)) (j₀ : J) where
    -- the journal after these
    abbrev after-all : List (List ℕ) → J
    after-all ts = foldl (stored_by R) j₀ ts

    -- the journal has the first undecided transaction too
    abbrev Late : List (List ℕ) → List (List ℕ) → Verdict → J → Type 0
    Late done rest v j =
        (t : List ℕ) × (ts : List (List ℕ)) × (match ≡ true) × (rest ≡ t ∷ ts) × (j ≡ stored_by R (after-all done) t) × (v ≡ Unconfirmed)

    -- what is done, with its clean verdicts, and what is left undecided
    pub record Summary (vs : List Verdict) (j : J) : Type 0 where
      done : List (List ℕ)
      rest : List (List ℕ)
      v : Verdict
      job_is : job ≡ done ++ rest
      verdicts_are : vs ≡ all_judged_by R j₀ done ++ undecided v rest
      v_open : Undecided v
      known : (done ≡ []) ⊎ (match ≡ true)
      journal-is : (j ≡ after-all done) ⊎ Late done rest v j

    -- every end has one
    pub summary : {Calm : Type 0} {left : List (List ℕ)} {told : List Verdict} {j : J} → Ended R job j₀ Calm left told j →
        Summary (told ++ replicate (length left) Unsent) j
    summary (quit {left = left} r q) =
        record {
          done = r.done;
          rest = left;
          v = Unsent;
          job_is = r.job_is;
          verdicts_are = rw (r.told_is, undecided_unsent left);
          v_open = inr (inr refl);
          known = r.known;
          journal-is = inl r.journal-is;
        }
    summary (broke {t = t} {left = left} {told = told} {v = v} {j = j} {j' = j'} m r e w n) =
        record {
          done = r.done;
          rest = t ∷ left;
          v = v;
          job_is = r.job_is;
          verdicts_are = append_snoc told v _ ∙ ap (λ (l : List Verdict). l ++ v ∷ replicate (length left) Unsent) r.told_is;
          v_open = e;
          known = r.known;
          journal-is = go w;
        }
      where
        go : (j' ≡ j) ⊎ ((j' ≡ stored_by R j t) × (v ≡ Unconfirmed)) →
            (j' ≡ after-all r.done) ⊎ Late r.done (t ∷ left) v j'
        go (inl p) = inl (p ∙ r.journal-is)
        go (inr (p, q)) = inr (t, left, m, refl, p ∙ ap (λ (z : J). stored_by R z t) r.journal-is, q)

    -- with equal passwords the clean verdicts are the fold
    pub clean-verdicts_are : match ≡ true → verdicts_by R j₀ job ≡ all_judged_by R j₀ job
    clean-verdicts_are m = ap (λ (c : Bool). if c then all_judged_by R j₀ job else replicate (length job) Unsent) m

    -- so are the clean journals
    pub clean-journal-is : match ≡ true → (k : ℕ) → journal_by R j₀ job k ≡ after-all (take k job)
    clean-journal-is m k = ap (λ (c : Bool). if c then after-all (take k job) else j₀) m

    -- with other passwords all are unsent
    pub unmatched-verdicts : match ≡ false → verdicts_by R j₀ job ≡ replicate (length job) Unsent
    unmatched-verdicts m = ap (λ (c : Bool). if c then all_judged_by R j₀ job else replicate (length job) Unsent) m

    -- and the journal is the starting one
    pub unmatched-journal : match ≡ false → (k : ℕ) → journal_by R j₀ job k ≡ j₀
    unmatched-journal m k = ap (λ (c : Bool). if c then after-all (take k job) else j₀) m

    module _ {vs : List Verdict} {j : J} (s : Summary vs j) where
      open s use {done, rest, v}

      -- k is the number of transactions done
      k-is : decided vs ≡ length done
      k-is = rw (s.verdicts_are, decided-append) (omega (arith, decided-verdicts j₀ done, decided-undecided v s.v_open rest))

      -- past the decided verdicts
      at : (i : ℕ) → get_or vs (decided vs + i) Unsent ≡ get_or (undecided v rest) i Unsent
      at i = rw (k-is, s.verdicts_are, ← length-verdicts j₀ done) (get_or-append-add (all_judged_by R j₀ done) (undecided v rest) i Unsent)

      -- the first k of the verdicts are those of what is done
      seam : (us : List Verdict) → take (length done) (all_judged_by R j₀ done ++ us) ≡ all_judged_by R j₀ done
      seam us = take_at (all_judged_by R j₀ done) us (length done) (length-verdicts j₀ done)

      -- the first k are clean
      clean-start : take (decided vs) vs ≡ take (decided vs) (verdicts_by R j₀ job)
      clean-start = go s.known
        where
          go : (done ≡ []) ⊎ (match ≡ true) → take (decided vs) vs ≡ take (decided vs) (verdicts_by R j₀ job)
          go (inl e) = rw (k-is, e)
          go (inr m) =
              rw (k-is, clean-verdicts_are m, s.job_is, s.verdicts_are, verdicts-append)
              (seam (undecided v rest) ∙ sym (seam (all_judged_by R (after-all done) rest)))

      -- the clean journal after k + n
      journal-at : (n : ℕ) → match ≡ true → journal_by R j₀ job (decided vs + n) ≡ foldl (stored_by R) (after-all done) (take n rest)
      journal-at n m = rw (clean-journal-is m (decided vs + n), k-is, s.job_is, take-append-add) (foldl-append (stored_by R) j₀ done (take n rest))

      -- the journal after what is done is the clean one after k
      journal-kept : after-all done ≡ journal_by R j₀ job (decided vs)
      journal-kept = go s.known
        where
          go : (done ≡ []) ⊎ (match ≡ true) → after-all done ≡ journal_by R j₀ job (decided vs)
          go (inl e) = rw (k-is, e) (choice (λ (j : J). j₀ ≡ j) match (λ e. refl) (λ e. refl))
          go (inr m) = sym (simp add-zero at (journal-at 0 m))

      -- what is claimed
      pub safe : Safe R job j₀ vs j
      safe =
          record {
            one_each = rw (s.verdicts_are, s.job_is) (simp (length-append, length-verdicts, length-undecided));
            agrees = record {
              first-clean = clean-start;
              next-undecided = rw (simp add-zero at (at 0)) (first-undecided v s.v_open rest);
              later_unsent = later;
              journal-clean = go s.journal-is;
            };
          }
        where
          later : (i : ℕ) → decided vs < i → get_or vs i Unsent ≡ Unsent
          later i h =
              let n = i - suc (decided vs) in
              let e : i ≡ decided vs + suc n = omega arith in
              rw e (at (suc n) ∙ later-undecided v rest n)

          go : (j ≡ after-all done) ⊎ Late done rest v j →
              (j ≡ journal_by R j₀ job (decided vs)) ⊎
              ((j ≡ journal_by R j₀ job (decided vs + 1)) × (get_or vs (decided vs) Unsent ≡ Unconfirmed))
          go (inl e) = inl (e ∙ journal-kept)
          go (inr (t, ts, m, e, p, q)) = inr (p ∙ sym (rw e at (journal-at 1 m)), (simp add-zero at (at 0)) ∙ rw e q)
