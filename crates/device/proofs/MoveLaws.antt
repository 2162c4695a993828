-- The moves as a relation: which move each reply leads to from each step. A law of all moves goes by these cases.
use Rattle.std.specs.Prelude.{Some, None}
use mathlib.Core.Bool.{true, false}
use mathlib.Core.List.{List}
use mathlib.Core.Path.{◌≡◌, refl}
use Prim.Native.Nat.{ℕ, ◌+◌}
use lib.Dec.{ltb, eqb}
use Rattle.line.proofs.OutcomeLaws.{choice}
use Rattle.reply.specs.declared.Meaning.TheVariants.{IdRequest, Acceptance, Ack, Nak, Rs, Eot}
use Rattle.reply.specs.Reading.{Reply}
use Rattle.device.specs.Reaction.{Move, again, block_reply, blocks_in, closes, first, gives, goes, logs_on, logs_on_again, may_repeat, moves, onwards, opens, opens_again, place, reports, sends}
use Rattle.device.specs.declared.state.Place.{Place}
use Rattle.device.specs.declared.state.Settings.{Settings}
use Rattle.device.specs.declared.state.Step.{Step}
use Rattle.device.specs.declared.state.Step.TheVariants.{Opening, Logon, Sending, Closing, Stopped}
use Rattle.device.specs.declared.state.Verdict.TheVariants.{Accepted, Rejected, Unconfirmed, Deferred}

module _ (settings : Settings) (job : List (List ℕ)) where
  -- a step, a reply to it, and the move
  pub data Leads : Step → Reply → Move → Type 0 where
    requested : {p : Place} → Leads (Opening p) (Some IdRequest) (goes (Logon first))
    reopens : {p : Place} {r : Reply} → ltb p.attempts 3 ≡ true → Leads (Opening p) r (goes (Opening (again p)))
    unanswered : {p : Place} {r : Reply} → Leads (Opening p) r (goes Stopped)
    admitted : {p : Place} → Leads (Logon p) (Some Acceptance) (goes (onwards job 0))
    relogs : {p : Place} {r : Reply} → may_repeat settings p ≡ true → Leads (Logon p) r (goes (Logon (again p)))
    turned_away : {p : Place} {r : Reply} → Leads (Logon p) r (goes Stopped)
    accepted : {p : Place} → eqb (p.block + 1) (blocks_in settings job p.transaction) ≡ true →
        Leads (Sending p) (Some Ack) (gives p.transaction Accepted (onwards job (p.transaction + 1)))
    continued : {p : Place} → eqb (p.block + 1) (blocks_in settings job p.transaction) ≡ false →
        Leads (Sending p) (Some Ack) (goes (Sending (place p.transaction (p.block + 1) 1)))
    resends : {p : Place} → may_repeat settings p ≡ true → Leads (Sending p) (Some Nak) (goes (Sending (again p)))
    exhausted : {p : Place} → may_repeat settings p ≡ false → Leads (Sending p) (Some Nak) (gives p.transaction Deferred Stopped)
    rejected : {p : Place} → Leads (Sending p) (Some Rs) (gives p.transaction Rejected (onwards job (p.transaction + 1)))
    hung_up_lem : {p : Place} → Leads (Sending p) (Some Eot) (gives p.transaction Deferred Stopped)
    unconfirmed : {p : Place} {r : Reply} → block_reply r ≡ None → Leads (Sending p) r (gives p.transaction Unconfirmed Stopped)
    recloses : {p : Place} → may_repeat settings p ≡ true → Leads (Closing p) (Some Nak) (goes (Closing (again p)))
    reported : {p : Place} {r : Reply} → Leads (Closing p) r (reports r)
    stays : {r : Reply} → Leads Stopped r (goes Stopped)

  -- CR again, or no more
  opens-again-leads : (p : Place) (r : Reply) → Leads (Opening p) r (opens_again p)
  opens-again-leads p r = choice (Leads (Opening p) r) (ltb p.attempts 3) (λ e. reopens e) (λ e. unanswered)

  opens-leads : (p : Place) (r : Reply) → Leads (Opening p) r (opens p r)
  opens-leads p (Some IdRequest) = requested
  opens-leads p (Some Acceptance) = opens-again-leads p (Some Acceptance)
  opens-leads p (Some Ack) = opens-again-leads p (Some Ack)
  opens-leads p (Some Nak) = opens-again-leads p (Some Nak)
  opens-leads p (Some Rs) = opens-again-leads p (Some Rs)
  opens-leads p (Some Eot) = opens-again-leads p (Some Eot)
  opens-leads p None = opens-again-leads p None

  -- the logon again, or no more
  logs_on-again-leads : (p : Place) (r : Reply) → Leads (Logon p) r (logs_on_again settings p)
  logs_on-again-leads p r = choice (Leads (Logon p) r) (may_repeat settings p) (λ e. relogs e) (λ e. turned_away)

  logs_on-leads : (p : Place) (r : Reply) → Leads (Logon p) r (logs_on settings job p r)
  logs_on-leads p (Some Nak) = logs_on-again-leads p (Some Nak)
  logs_on-leads p (Some IdRequest) = logs_on-again-leads p (Some IdRequest)
  logs_on-leads p (Some Acceptance) = admitted
  logs_on-leads p (Some Ack) = turned_away
  logs_on-leads p (Some Rs) = turned_away
  logs_on-leads p (Some Eot) = turned_away
  logs_on-leads p None = turned_away

  sends-leads : (p : Place) (r : Reply) → Leads (Sending p) r (sends settings job p r)
  sends-leads p (Some Ack) =
      choice (Leads (Sending p) (Some Ack)) (eqb (p.block + 1) (blocks_in settings job p.transaction)) (λ e. accepted e) (λ e. continued e)
  sends-leads p (Some Nak) = choice (Leads (Sending p) (Some Nak)) (may_repeat settings p) (λ e. resends e) (λ e. exhausted e)
  sends-leads p (Some Rs) = rejected
  sends-leads p (Some Eot) = hung_up_lem
  sends-leads p (Some IdRequest) = unconfirmed refl
  sends-leads p (Some Acceptance) = unconfirmed refl
  sends-leads p None = unconfirmed refl

  closes-leads : (p : Place) (r : Reply) → Leads (Closing p) r (closes settings p r)
  closes-leads p (Some Nak) = choice (Leads (Closing p) (Some Nak)) (may_repeat settings p) (λ e. recloses e) (λ e. reported)
  closes-leads p (Some IdRequest) = reported
  closes-leads p (Some Acceptance) = reported
  closes-leads p (Some Ack) = reported
  closes-leads p (Some Rs) = reported
  closes-leads p (Some Eot) = reported
  closes-leads p None = reported

  -- every move is one of these
  pub moves_lead : (step : Step) (r : Reply) → Leads step r (moves settings job step r)
  unfolding moves
  moves_lead (Opening p) r = opens-leads p r
  moves_lead (Logon p) r = logs_on-leads p r
  moves_lead (Sending p) r = sends-leads p r
  moves_lead (Closing p) r = closes-leads p r
  moves_lead Stopped r = stays
