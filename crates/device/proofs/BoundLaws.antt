-- The bound: every string that the device puts out leaves it fewer transmissions, whatever it reads.
use mathlib.Core.Bool.{true}
use mathlib.Core.List.{List, [], ◌∷◌}
use mathlib.Core.Logic.{◌⊎◌, inl, inr}
use mathlib.Core.Path.{◌≡◌, refl, ap, ◌∙◌}
use Prim.Native.Nat.{ℕ, ◌+◌, ◌-◌, ◌*◌, ◌≤◌, ◌<◌}
use native.Mathlib.Nat.{mul-add, mul-le-mul_left}
use native.Mathlib.Numerals.{add-one}
use native.Mathlib.Omega.{arith}
use borrow.Author.Tests.{ltb-true, eqb-false}
use lib.Dec.{ltb}
use lib.ListN.{length, drop}
use lib.Seq.{drop-cons}
use Rattle.line.proofs.OutcomeLaws.{choice}
use Rattle.journal.specs.Encoding.{all_legal}
use Rattle.segmentation.specs.Segmentation.{segmentation_by}
use Rattle.reply.specs.Reading.{Reply}
use Rattle.device.specs.Bound.{job_blocks, blocks_behind, left_of, transmissions_left}
use Rattle.device.specs.Reaction.{blocks_in, first, moves, onwards, place, segments_of, Move}
use Rattle.device.specs.Step.{exists}
use Rattle.device.specs.declared.state.Place.{Place}
use Rattle.device.specs.declared.state.Settings.{Settings}
use Rattle.device.specs.declared.state.Step.{Step}
use Rattle.device.specs.declared.state.Step.TheVariants.{Opening, Stopped}
use Rattle.device.proofs.JobLaws.{blocks-some, somewhere-parts}
use Rattle.device.proofs.MoveLaws.{Leads, requested, reopens, unanswered, admitted, relogs, turned_away, accepted, continued, resends, exhausted, rejected, hung_up_lem, unconfirmed, recloses, reported, stays, moves_lead}

-- a job has as many blocks with whatever settings cut it in the same way
pub blocks_alike : (settings settings' : Settings) → settings.way ≡ settings'.way → (ts : List (List ℕ)) → job_blocks settings ts ≡ job_blocks settings' ts
unfolding job_blocks segments_of
blocks_alike settings settings' e [] = refl
blocks_alike settings settings' e (t ∷ ts) =
    ap (λ way. length (segmentation_by way t) + job_blocks settings ts) e ∙ ap (λ n. length (segmentation_by settings'.way t) + n) (blocks_alike settings settings' e ts)

module _ (settings : Settings) where
  -- the same string once more leaves fewer
  again-falls : (most n behind : ℕ) → ltb n most ≡ true → left_of settings most (n + 1) behind < left_of settings most n behind
  again-falls most n behind h = go ((settings.retries + 1) * behind)
    where
      go : (k : ℕ) → most - (n + 1) + 1 + k < most - n + 1 + k
      go k = omega (arith, ltb-true n most h)

  -- a string behind it leaves fewer
  next-falls : (most n behind behind' : ℕ) → behind' + 1 ≤ behind → left_of settings (settings.retries + 1) 1 behind' < left_of settings most n behind
  next-falls most n behind behind' h =
      let d = settings.retries in
      go d ((d + 1) * behind') ((d + 1) * behind) (rw mul-add at (mul-le-mul_left (d + 1) h))
    where
      go : (d k l : ℕ) → k + (d + 1) * 1 ≤ l → d + 1 - 1 + 1 + k < most - n + 1 + l
      go d k l h = omega arith

  -- in a job
  module _ (ts : List (List ℕ)) where
    -- its blocks from a transaction on: those of this one and those behind it
    blocks_from : (t : ℕ) → t < length ts → job_blocks settings (drop t ts) ≡ blocks_in settings ts t + job_blocks settings (drop (t + 1) ts)
    unfolding job_blocks
    blocks_from t h = rw (add-one, drop-cons ts t [] h)

    -- a stopped device has none left
    stops-falls : (most n behind : ℕ) → transmissions_left settings ts Stopped < left_of settings most n behind
    unfolding transmissions_left
    stops-falls most n behind = omega arith

    -- of legal transactions
    module _ (good : all_legal ts ≡ true) where
      -- the next transaction, or the close, leaves fewer where its blocks are behind
      onwards-falls : (t most n behind : ℕ) → job_blocks settings (drop t ts) + 1 ≤ behind → transmissions_left settings ts (onwards ts t) < left_of settings most n behind
      unfolding transmissions_left
      onwards-falls t most n behind h =
          choice (λ step. transmissions_left settings ts step < left_of settings most n behind) (ltb t (length ts))
          (λ l.
          let there = ltb-true t (length ts) l in
          next-falls most n behind _ (omega (arith, blocks_from t there, blocks-some settings ts t good there)))
          (λ _. next-falls most n behind 0 (omega arith))

      -- so does the transaction behind a place
      behind-falls : (p : Place) →
          transmissions_left settings ts (onwards ts (p.transaction + 1)) < left_of settings (settings.retries + 1) p.attempts (blocks_behind settings ts p + 1)
      behind-falls p = onwards-falls (p.transaction + 1) (settings.retries + 1) p.attempts (blocks_behind settings ts p + 1) (omega arith)

      -- each move of a device that has not stopped leaves fewer
      leads_fall : {step : Step} {r : Reply} {m : Move} → Leads settings ts step r m → exists settings ts step ≡ true →
          (step ≡ Stopped) ⊎ (transmissions_left settings ts m.next < transmissions_left settings ts step)
      unfolding transmissions_left
      leads_fall (requested {p}) h = inr (next-falls 3 p.attempts (job_blocks settings ts + 2) (job_blocks settings ts + 1) (omega arith))
      leads_fall (reopens {p} e) h = inr (again-falls 3 p.attempts (job_blocks settings ts + 2) e)
      leads_fall (unanswered {p}) h = inr (stops-falls 3 p.attempts (job_blocks settings ts + 2))
      leads_fall (admitted {p}) h = inr (onwards-falls 0 (settings.retries + 1) p.attempts (job_blocks settings ts + 1) (omega arith))
      leads_fall (relogs {p} e) h = inr (again-falls (settings.retries + 1) p.attempts (job_blocks settings ts + 1) e)
      leads_fall (turned_away {p}) h = inr (stops-falls (settings.retries + 1) p.attempts (job_blocks settings ts + 1))
      leads_fall (accepted {p} e) h = inr (behind-falls p)
      leads_fall (continued {p} e) h =
          let (_, there) = somewhere-parts settings ts p h in
          let more = eqb-false (p.block + 1) (blocks_in settings ts p.transaction) e in
          inr (next-falls (settings.retries + 1) p.attempts (blocks_behind settings ts p + 1) (blocks_behind settings ts (place p.transaction (p.block + 1) 1) + 1) (omega arith))
      leads_fall (resends {p} e) h = inr (again-falls (settings.retries + 1) p.attempts (blocks_behind settings ts p + 1) e)
      leads_fall (exhausted {p} e) h = inr (stops-falls (settings.retries + 1) p.attempts (blocks_behind settings ts p + 1))
      leads_fall (rejected {p}) h = inr (behind-falls p)
      leads_fall (hung_up_lem {p}) h = inr (stops-falls (settings.retries + 1) p.attempts (blocks_behind settings ts p + 1))
      leads_fall (unconfirmed {p} e) h = inr (stops-falls (settings.retries + 1) p.attempts (blocks_behind settings ts p + 1))
      leads_fall (recloses {p} e) h = inr (again-falls (settings.retries + 1) p.attempts 0 e)
      leads_fall (reported {p}) h = inr (stops-falls (settings.retries + 1) p.attempts 0)
      leads_fall stays h = inl refl

      -- so does the move of every reply
      pub moves_fall : (step : Step) (r : Reply) → exists settings ts step ≡ true →
          (step ≡ Stopped) ⊎ (transmissions_left settings ts (moves settings ts step r).next < transmissions_left settings ts step)
      moves_fall step r h = leads_fall (moves_lead settings ts step r) h

    -- what a call may take: three for the opening, and D + 1 for the logon, for each block and for the close
    pub transmissions_bound : transmissions_left settings ts (Opening first) ≤ 3 + (settings.retries + 1) * (job_blocks settings ts + 2)
    unfolding transmissions_left
    transmissions_bound = omega arith
