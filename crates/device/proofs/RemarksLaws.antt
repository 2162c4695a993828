-- The remarks that a step reports: what the reply shows, or none; so a driver may cut them out of the reply.
use Rattle.std.specs.Prelude.{Option, Some, None}
use mathlib.Core.List.{List}
use mathlib.Core.Logic.{◌⊎◌, inl, inr, ⊎_elim}
use mathlib.Core.Path.{◌≡◌, refl}
use Prim.Native.Nat.{ℕ}
use lib.ListN.{length}
use Rattle.line.specs.Answer.{Outcome, done, refused}
use Rattle.reply.proofs.RemarksLaws.{remarks_inside}
use Rattle.reply.specs.Reading.{reply_read}
use Rattle.reply.specs.Remarks.{remarks_read, Inside}
use Rattle.device.specs.Reaction.{block_reply}
use Rattle.device.specs.Remarks.{remarks_at}
use Rattle.device.specs.Step.{Sent, StepsShowing}
use Rattle.device.specs.declared.reaction.Code.{Code}
use Rattle.device.specs.declared.state.Place.{Place}
use Rattle.device.specs.declared.state.Step.{Step}
use Rattle.device.specs.declared.state.Step.TheVariants.{Opening, Logon, Sending, Closing, Stopped}
use Rattle.device.specs.declared.state.Stepped.{Stepped}

-- a reply to a block shows its lines where the step reads a code in it
pub code_shows : {code : Code} (p : Place) (reply : List ℕ) → block_reply (reply_read reply) ≡ Some code → remarks_at (Sending p) reply ≡ remarks_read reply
code_shows p reply e = rw e

-- and none where it counts it as unread
pub unread_shows-none : (p : Place) (reply : List ℕ) → block_reply (reply_read reply) ≡ None → remarks_at (Sending p) reply ≡ None
unread_shows-none p reply e = rw e

-- so every step reports what the reply shows, or nothing
shows-or-none : (step : Step) (reply : List ℕ) → (remarks_at step reply ≡ remarks_read reply) ⊎ (remarks_at step reply ≡ None)
shows-or-none (Opening p) reply = inl refl
shows-or-none (Logon p) reply = inl refl
shows-or-none (Sending p) reply = go (block_reply (reply_read reply)) refl
  where
    go : (b : Option Code) → block_reply (reply_read reply) ≡ b → (remarks_at (Sending p) reply ≡ remarks_read reply) ⊎ (remarks_at (Sending p) reply ≡ None)
    go (Some code) e = inl (code_shows p reply e)
    go None e = inr (unread_shows-none p reply e)
shows-or-none (Closing p) reply = inl refl
shows-or-none Stopped reply = inr refl

-- which lies within the reply
at-inside : (step : Step) (reply : List ℕ) → Inside (length reply) (remarks_at step reply)
at-inside step reply = ⊎_elim (λ e. rw e (remarks_inside reply)) (λ e. rw e tt) (shows-or-none step reply)

-- the driver's law: what a step answers lies within the reply that it was given, whether it is done or refused
pub reported-inside : (o : Outcome Sent) {step : Step} {r : Stepped} {out out' : List ℕ} (reply : List ℕ) →
    StepsShowing o step (remarks_at step reply) r out out' → Inside (length reply) r.remarks
reported-inside (done x) {step = step} reply w = rw w.shows (at-inside step reply)
reported-inside (refused n) reply w = rw w.shows tt
