-- A move leads from a step whose place exists in the job to another such.
use mathlib.Core.Bool.{true, false, ◌&&◌}
use mathlib.Core.List.{List}
use mathlib.Core.Path.{◌≡◌, refl}
use Prim.Native.Nat.{ℕ, ◌+◌}
use native.Mathlib.Omega.{arith}
use borrow.Author.Tests.{lt-ltb, ltb-true, eqb-false}
use lib.Dec.{ltb, eqb}
use lib.ListN.{length}
use Rattle.line.proofs.OutcomeLaws.{choice}
use Rattle.journal.specs.Encoding.{all_legal}
use Rattle.reply.specs.Reading.{Reply}
use Rattle.device.specs.Reaction.{Move, blocks_in, onwards, moves}
use Rattle.device.specs.Step.{exists, somewhere}
use Rattle.device.specs.declared.state.Place.{Place}
use Rattle.device.specs.declared.state.Settings.{Settings}
use Rattle.device.specs.declared.state.Step.{Step}
use Rattle.device.proofs.JobLaws.{blocks-some, somewhere-parts}
use Rattle.device.proofs.MoveLaws.{Leads, requested, reopens, unanswered, admitted, relogs, turned_away, accepted, continued, resends, exhausted, rejected, hung_up_lem, unconfirmed, recloses, reported, stays, moves_lead}

module _ (settings : Settings) (job : List (List ℕ)) (good : all_legal job ≡ true) where
  -- the first block of the next transaction exists, where there is such a transaction
  onwards-exists : (t : ℕ) → exists settings job (onwards job t) ≡ true
  onwards-exists t =
      choice (λ s. exists settings job s ≡ true) (ltb t (length job))
      (λ e. rw (e, lt-ltb 0 (blocks_in settings job t) (blocks-some settings job t good (ltb-true t (length job) e)))) (λ e. refl)

  -- the block behind one that is not the last
  next-exists : (p : Place) → somewhere settings job p ≡ true → eqb (p.block + 1) (blocks_in settings job p.transaction) ≡ false →
      (ltb p.transaction (length job) && ltb (p.block + 1) (blocks_in settings job p.transaction)) ≡ true
  next-exists p h e =
      let (t, b) = somewhere-parts settings job p h in
      let other = eqb-false (p.block + 1) (blocks_in settings job p.transaction) e in
      rw (lt-ltb p.transaction (length job) t, lt-ltb (p.block + 1) (blocks_in settings job p.transaction) (omega arith))

  -- each move leads to a step whose place exists
  leads_exist : {step : Step} {r : Reply} {m : Move} → Leads settings job step r m → exists settings job step ≡ true → exists settings job m.next ≡ true
  leads_exist requested h = refl
  leads_exist (reopens e) h = h
  leads_exist unanswered h = refl
  leads_exist admitted h = onwards-exists 0
  leads_exist (relogs e) h = h
  leads_exist turned_away h = refl
  leads_exist (accepted {p} e) h = onwards-exists (p.transaction + 1)
  leads_exist (continued {p} e) h = next-exists p h e
  leads_exist (resends e) h = h
  leads_exist (exhausted e) h = refl
  leads_exist (rejected {p}) h = onwards-exists (p.transaction + 1)
  leads_exist hung_up_lem h = refl
  leads_exist (unconfirmed e) h = refl
  leads_exist (recloses e) h = h
  leads_exist reported h = refl
  leads_exist stays h = refl

  -- so does the move of every reply
  pub moves_exist : (step : Step) (r : Reply) → exists settings job step ≡ true → exists settings job (moves settings job step r).next ≡ true
  moves_exist step r h = leads_exist (moves_lead settings job step r) h
