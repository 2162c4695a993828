-- Attempts: a move leads to a step whose attempts are in range, so that a call stays in range.
use mathlib.Core.Bool.{Bool, true, false}
use mathlib.Core.List.{List}
use mathlib.Core.Path.{◌≡◌, refl, sym}
use Prim.Native.Nat.{ℕ, ◌+◌}
use native.Mathlib.Omega.{arith}
use borrow.Author.Tests.{le-leb, le-ltb, lt-ltb, leb-true, leb-false, ltb-true}
use lib.Dec.{leb, ltb}
use lib.ListN.{length}
use Rattle.line.proofs.OutcomeLaws.{choice}
use Rattle.reply.specs.Reading.{Reply}
use Rattle.device.specs.Reaction.{Move, again, onwards, moves}
use Rattle.device.specs.Step.{attempts_in_range, step_in_range}
use Rattle.device.specs.declared.state.Place.{Place}
use Rattle.device.specs.declared.state.Settings.{Settings}
use Rattle.device.specs.declared.state.Step.{Step}
use Rattle.device.proofs.MoveLaws.{Leads, requested, reopens, unanswered, admitted, relogs, turned_away, accepted, continued, resends, exhausted, rejected, hung_up_lem, unconfirmed, recloses, reported, stays, moves_lead}

-- ── General ──

-- at most b is below b + 1
pub at_most : (a b : ℕ) → leb a b ≡ ltb a (b + 1)
at_most a b = go (leb a b) refl
  where
    go : (t : Bool) → leb a b ≡ t → t ≡ ltb a (b + 1)
    go true e =
        let below = leb-true a b e in
        sym (lt-ltb a (b + 1) (omega arith))
    go false e =
        let above = leb-false a b e in
        sym (le-ltb a (b + 1) (omega arith))

-- ── Moves ──

-- once more is in range where the attempts so far are below the most
again_in_range : (most : ℕ) (p : Place) → ltb p.attempts most ≡ true → attempts_in_range most (again p) ≡ true
again_in_range most p e =
    let below = ltb-true p.attempts most e in
    rw (le-leb 1 (p.attempts + 1) (omega arith), le-leb (p.attempts + 1) most (omega arith))

module _ (settings : Settings) (job : List (List ℕ)) where
  -- the first attempt of a transaction, or of the close, is in range
  onwards_in_range : (t : ℕ) → step_in_range settings (onwards job t) ≡ true
  onwards_in_range t =
      let first = le-leb 1 (settings.retries + 1) (omega arith) in
      choice (λ s. step_in_range settings s ≡ true) (ltb t (length job)) (λ e. first) (λ e. first)

  -- each move leads to a step whose attempts are in range
  leads_in_range : {step : Step} {r : Reply} {m : Move} → Leads settings job step r m → step_in_range settings m.next ≡ true
  leads_in_range requested = le-leb 1 (settings.retries + 1) (omega arith)
  leads_in_range (reopens {p} e) = again_in_range 3 p e
  leads_in_range unanswered = refl
  leads_in_range admitted = onwards_in_range 0
  leads_in_range (relogs {p} e) = again_in_range (settings.retries + 1) p e
  leads_in_range turned_away = refl
  leads_in_range (accepted {p} e) = onwards_in_range (p.transaction + 1)
  leads_in_range (continued e) = le-leb 1 (settings.retries + 1) (omega arith)
  leads_in_range (resends {p} e) = again_in_range (settings.retries + 1) p e
  leads_in_range (exhausted e) = refl
  leads_in_range (rejected {p}) = onwards_in_range (p.transaction + 1)
  leads_in_range hung_up_lem = refl
  leads_in_range (unconfirmed e) = refl
  leads_in_range (recloses {p} e) = again_in_range (settings.retries + 1) p e
  leads_in_range reported = refl
  leads_in_range stays = refl

  -- so does the move of every reply
  pub moves_in_range : (step : Step) (r : Reply) → step_in_range settings (moves settings job step r).next ≡ true
  moves_in_range step r = leads_in_range (moves_lead settings job step r)
