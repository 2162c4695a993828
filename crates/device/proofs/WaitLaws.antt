-- The transaction whose block a step sends: behind a reply it is the same, or the one behind it, and one survey of the job says where both lie.
use Rattle.std.specs.Prelude.{if◌then◌else◌}
use mathlib.Core.Bool.{Bool, true, false}
use mathlib.Core.List.{List, []}
use mathlib.Core.Path.{◌≡◌, refl, subst}
use Prim.Native.Nat.{ℕ, ◌+◌, ◌<◌}
use native.Mathlib.Omega.{arith}
use borrow.Author.Tests.{eq-eqb, ne_eqb}
use lib.Dec.{eqb, ltb}
use lib.ListN.{length, get_or}
use Rattle.line.specs.Answer.{done}
use Rattle.line.specs.Transaction.{legal}
use Rattle.line.proofs.OutcomeLaws.{choice}
use Rattle.journal.specs.Survey.{Lies, survey_of}
use Rattle.journal.specs.Walk.{decode}
use Rattle.journal.specs.declared.record.Located.{Located}
use Rattle.journal.proofs.RecordLaws.{legal-at}
use Rattle.journal.proofs.SurveyLaws.{lies_at}
use Rattle.reply.specs.Reading.{Reply}
use Rattle.segmentation.specs.Segmentation.{cuttable}
use Rattle.device.specs.Inner.{transaction_of, extent_for, SendsOf, Waits}
use Rattle.device.specs.Reaction.{Move, onwards, segments_of}
use Rattle.device.specs.declared.state.Place.{Place}
use Rattle.device.specs.declared.state.Settings.{Settings}
use Rattle.device.specs.declared.state.Step.{Step}
use Rattle.device.specs.declared.state.Step.TheVariants.{Opening, Logon, Sending, Closing, Stopped}
use Rattle.device.proofs.CutLaws.{cuts_at}
use Rattle.device.proofs.JobLaws.{somewhere-parts}
use Rattle.device.proofs.MoveLaws.{Leads, requested, reopens, unanswered, admitted, relogs, turned_away, accepted, continued, resends, exhausted, rejected, hung_up_lem, unconfirmed, recloses, reported, stays}

-- ── A step ──

-- the transaction of a step is the one whose block it sends
pub sends-own : (job : List (List ℕ)) (step : Step) (info : List ℕ) → get_or job (transaction_of step) [] ≡ info → SendsOf job step info
sends-own job (Opening p) info e = tt
sends-own job (Logon p) info e = tt
sends-own job (Sending p) info e = e
sends-own job (Closing p) info e = tt
sends-own job Stopped info e = tt

-- the transaction of a sending step is one of the job's, legal, and has the block
pub waits-parts : (settings : Settings) (job : List (List ℕ)) (p : Place) (info : List ℕ) → Waits settings job (Sending p) info →
    (p.transaction < length job) × (legal info ≡ true) × (p.block < length (segments_of settings info))
waits-parts settings job p info w =
    let (t, b) = somewhere-parts settings job p w.there in
    let shows = w.shows in
    (t, rw shows at (legal-at job p.transaction w.good t), rw shows at b)

-- which the settings' way can cut
pub waits-cut : (settings : Settings) (job : List (List ℕ)) (p : Place) (info : List ℕ) → Waits settings job (Sending p) info → cuttable settings.way info ≡ true
waits-cut settings job p info w =
    let (t, _) = somewhere-parts settings job p w.there in
    let shows = w.shows in
    rw shows at (cuts_at settings.way job p.transaction w.cut t)

-- ── The step behind it ──

-- the transaction of a step, or the one behind it
abbrev pub near : List (List ℕ) → ℕ → ℕ → List ℕ
near job from to = if eqb to from then get_or job from [] else get_or job (from + 1) []

module _ (settings : Settings) (job : List (List ℕ)) where
  -- a step that sends a block of the same transaction
  same-near : (t : ℕ) → get_or job t [] ≡ near job t t
  same-near t = rw (eq-eqb t t refl)

  -- the first block of the next, or the close
  onwards-near : (t : ℕ) → SendsOf job (onwards job (t + 1)) (near job t (transaction_of (onwards job (t + 1))))
  onwards-near t =
      choice (λ s. SendsOf job s (near job t (transaction_of s))) (ltb (t + 1) (length job)) (λ _. rw (ne_eqb (t + 1) t (omega arith))) (λ _. tt)

  -- each move leads to the same transaction or the next
  pub leads-near : {step : Step} {r : Reply} {m : Move} → Leads settings job step r m → SendsOf job m.next (near job (transaction_of step) (transaction_of m.next))
  leads-near requested = tt
  leads-near (reopens e) = tt
  leads-near unanswered = tt
  leads-near admitted = choice (λ s. SendsOf job s (near job 0 (transaction_of s))) (ltb 0 (length job)) (λ _. refl) (λ _. tt)
  leads-near (relogs e) = tt
  leads-near turned_away = tt
  leads-near (accepted {p} e) = onwards-near p.transaction
  leads-near (continued {p} e) = same-near p.transaction
  leads-near (resends {p} e) = same-near p.transaction
  leads-near (exhausted e) = tt
  leads-near (rejected {p}) = onwards-near p.transaction
  leads-near hung_up_lem = tt
  leads-near (unconfirmed e) = tt
  leads-near (recloses e) = tt
  leads-near reported = tt
  leads-near stays = tt

-- ── Where they lie ──

-- a job that was surveyed at a transaction
module _ (bytes : List ℕ) (job : List (List ℕ)) (read : decode bytes ≡ done job) (from : ℕ) {found : Located} (same : survey_of from job ≡ found) where
  -- where it lies
  pub here-lies : Lies bytes found.here (get_or job from [])
  here-lies = subst (λ f. Lies bytes f.here (get_or job from [])) same (lies_at bytes job read from)

  -- where it or the next lies
  pub near-lies : (to : ℕ) → Lies bytes (extent_for found from to) (near job from to)
  near-lies to = go (eqb to from)
    where
      go : (b : Bool) → Lies bytes (if b then found.here else found.next) (if b then get_or job from [] else get_or job (from + 1) [])
      go true = here-lies
      go false = subst (λ f. Lies bytes f.next (get_or job (from + 1) [])) same (lies_at bytes job read (from + 1))
