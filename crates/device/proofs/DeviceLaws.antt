-- The device's steps: a step that is not refused leaves a state in range, an unread block is never sent again, and which replies a verdict comes from.
use Rattle.std.specs.Prelude.{Option, Some, None}
use mathlib.Core.Bool.{true, false≢true}
use mathlib.Core.List.{List}
use mathlib.Core.Logic.{◌⊎◌, inl, inr}
use mathlib.Core.Path.{◌≡◌, refl, ap}
use Prim.Native.Nat.{ℕ, ◌+◌, ◌≤◌}
use borrow.Author.Tests.{eqb-true, ltb-false}
use Rattle.line.specs.Answer.{done}
use Rattle.line.proofs.OutcomeLaws.{map-done}
use Rattle.journal.specs.Encoding.{all_legal}
use Rattle.journal.specs.Walk.{decode}
use Rattle.journal.proofs.EncodingLaws.{decode-legal}
use Rattle.reply.specs.Reading.{reply_read, Reply}
use Rattle.reply.specs.declared.Meaning.TheVariants.{Ack, Nak, Rs, Eot}
use Rattle.device.specs.Reaction.{block_reply, blocks_in, given, gives, moves, Move}
use Rattle.device.specs.Step.{exists, Sent, started, step_in_range, stepped, tested}
use Rattle.device.specs.declared.state.Given.{Given}
use Rattle.device.specs.declared.state.Place.{Place}
use Rattle.device.specs.declared.state.Settings.{Settings}
use Rattle.device.specs.declared.state.State.{State}
use Rattle.device.specs.declared.state.Step.{Step}
use Rattle.device.specs.declared.state.Step.TheVariants.{Sending, Stopped}
use Rattle.device.specs.declared.state.Verdict.{Verdict}
use Rattle.device.specs.declared.state.Verdict.TheVariants.{Accepted, Rejected, Unconfirmed, Deferred, Unsent, InDoubt}
use Rattle.device.proofs.MoveLaws.{Leads, requested, reopens, unanswered, admitted, relogs, turned_away, accepted, continued, resends, exhausted, rejected, hung_up_lem, unconfirmed, recloses, reported, stays, moves_lead}
use Rattle.device.proofs.PlaceLaws.{moves_exist}
use Rattle.device.proofs.RangeLaws.{moves_in_range}
use Rattle.device.proofs.StepLaws.{stepped-passes}

-- ── States in range ──

-- a step in range, whose place exists in the job
pub record Within (settings : Settings) (ts : List (List ℕ)) (step : Step) : Type 0 where
  pub range : step_in_range settings step ≡ true
  pub there : exists settings ts step ≡ true

-- whatever is read, the step behind it is in range, in a job of legal transactions
pub moves-within : (settings : Settings) (ts : List (List ℕ)) → all_legal ts ≡ true → (step : Step) (r : Reply) → Within settings ts step → Within settings ts (moves settings ts step r).next
moves-within settings ts good step r w =
    record { range = moves_in_range settings ts step r; there = moves_exist settings ts good step r w.there }

-- a step that is not refused leaves a state in range
pub step_in_range_lem : (s : State) (settings : Settings) (job reply : List ℕ) (room : ℕ) (x : Sent) → stepped s settings job reply room ≡ done x →
    (step_in_range settings x.move.next ≡ true) × ((ts : List (List ℕ)) → decode job ≡ done ts → exists settings ts x.move.next ≡ true)
step_in_range_lem s settings job reply room x h =
    let (ts, passes, same) = stepped-passes s settings job reply room x h in
    let within = moves-within settings ts (decode-legal job ts passes.read) s.step (reply_read reply) (record { range = passes.range; there = passes.there }) in
    let read = passes.read in
    rw (← same) (within.range, λ us e. let one : us ≡ ts = cc in rw one within.there)

-- a start that is not refused leaves a state in range
pub start_in_range : (settings : Settings) (job : List ℕ) (room : ℕ) (x : Sent) → started settings job room ≡ done x →
    (step_in_range settings x.move.next ≡ true) × ((ts : List (List ℕ)) → decode job ≡ done ts → exists settings ts x.move.next ≡ true)
unfolding started
start_in_range settings job room x h =
    let (ts, _, e) = map-done _ (tested settings Stopped job room) x h in
    rw (← e) (refl, λ us _. refl)

-- ── What is read ──

-- an unread block is never sent again
pub unread_stops : (settings : Settings) (ts : List (List ℕ)) (p : Place) (r : Reply) → block_reply r ≡ None →
    moves settings ts (Sending p) r ≡ gives p.transaction Unconfirmed Stopped
unfolding moves
unread_stops settings ts p r e = rw e

-- ── What a verdict comes from ──

-- the reply to a block for which the block's transaction gets this verdict
abbrev pub Decides : Settings → List (List ℕ) → Place → Reply → Verdict → Type 0
Decides settings ts p r Accepted = (r ≡ Some Ack) × (p.block + 1 ≡ blocks_in settings ts p.transaction)
Decides settings ts p r Rejected = r ≡ Some Rs
Decides settings ts p r Unconfirmed = block_reply r ≡ None
Decides settings ts p r Deferred = ((r ≡ Some Nak) × (settings.retries + 1 ≤ p.attempts)) ⊎ (r ≡ Some Eot)
Decides settings ts p r Unsent = ⊥
Decides settings ts p r InDoubt = ⊥

-- a verdict on a transaction
module _ (settings : Settings) (ts : List (List ℕ)) (t : ℕ) (v : Verdict) where
  -- it comes from a sending step at the transaction, for its reason
  abbrev pub From : Step → Reply → Type 0
  From step r = (p : Place) × (step ≡ Sending p) × (p.transaction ≡ t) × Decides settings ts p r v

  -- it is the one that is given
  judged : (p : Place) (r : Reply) (u : Verdict) → Decides settings ts p r u → ◌≡◌ {A = Option Given} (Some (given p.transaction u)) (Some (given t v)) → From (Sending p) r
  judged p r u d e =
      let one : given p.transaction u ≡ given t v = cc in
      let same : u ≡ v = ap (λ g. g.verdict) one in
      (p, refl, ap (λ g. g.transaction) one, rw same at d)

  -- nothing is given
  quiet : {A : Type 0} → ◌≡◌ {A = Option Given} None (Some (given t v)) → A
  quiet e = absurd (false≢true cc)

  -- each move gives it for its reason
  leads-decided : {step : Step} {r : Reply} {m : Move} → Leads settings ts step r m → m.given ≡ Some (given t v) → From step r
  leads-decided requested e = quiet e
  leads-decided (reopens _) e = quiet e
  leads-decided unanswered e = quiet e
  leads-decided admitted e = quiet e
  leads-decided (relogs _) e = quiet e
  leads-decided turned_away e = quiet e
  leads-decided (accepted {p} l) e = judged p (Some Ack) Accepted (refl, eqb-true _ _ l) e
  leads-decided (continued _) e = quiet e
  leads-decided (resends _) e = quiet e
  leads-decided (exhausted {p} l) e = judged p (Some Nak) Deferred (inl (refl, ltb-false _ _ l)) e
  leads-decided (rejected {p}) e = judged p (Some Rs) Rejected refl e
  leads-decided (hung_up_lem {p}) e = judged p (Some Eot) Deferred (inr refl) e
  leads-decided (unconfirmed {p} {r} u) e = judged p r Unconfirmed u e
  leads-decided (recloses _) e = quiet e
  leads-decided reported e = quiet e
  leads-decided stays e = quiet e

  -- so does the move of every reply
  pub gives-decided : (step : Step) (r : Reply) → (moves settings ts step r).given ≡ Some (given t v) → From step r
  gives-decided step r e = leads-decided (moves_lead settings ts step r) e
