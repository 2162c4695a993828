-- The final verdicts: early or late the run is the same; nothing is given from the close on, so the provisional ones are those before it; settling leaves a verdict or puts it in doubt, so what is still decided is the clean one. On a clean line the close confirms.
use Rattle.std.specs.Prelude.{None}
use mathlib.Core.Bool.{Bool, true, false, false≢true}
use mathlib.Core.List.{List, [], tail}
use mathlib.Core.Path.{◌≡◌, refl, sym, ap, ◌∙◌}
use Prim.Native.Nat.{ℕ, zero, suc, ◌≤◌}
use native.Mathlib.Omega.{arith}
use borrow.Author.Tests.{ltb-true, ltb-false}
use lib.Dec.{ltb}
use lib.ListN.{length, get_or-map}
use Rattle.line.proofs.OutcomeLaws.{choice}
use Rattle.reply.specs.Reading.{reply_read}
use Rattle.reply.specs.Reading.{Reply}
use Rattle.device.proofs.BoundLaws.{blocks_alike}
use Rattle.device.proofs.MoveLaws.{Leads, requested, reopens, unanswered, admitted, relogs, turned_away, accepted, continued, resends, exhausted, rejected, hung_up_lem, unconfirmed, recloses, reported, stays, moves_lead}
use Rattle.device.proofs.SettlingLaws.{confirmed-stands, early_stands, moves-confirmed, moves-unreported, string-confirmed, unsent_settled}
use Rattle.device.specs.Reaction.{Move}
use Rattle.device.specs.Settling.{doubted, is_stopped, settled, standing_at, with_confirmation}
use Rattle.device.specs.declared.settling.Standing.{Standing}
use Rattle.device.specs.declared.state.Confirmation.{Confirmation}
use Rattle.device.specs.declared.state.Confirmation.TheVariants.{Early}
use Rattle.device.specs.declared.state.Report.{Report}
use Rattle.device.specs.declared.state.Report.TheVariants as Reporting
use Rattle.device.specs.declared.state.Settings.{Settings}
use Rattle.device.specs.declared.state.Step.{Step}
use Rattle.device.specs.declared.state.Step.TheVariants.{Stopped}
use Rattle.device.specs.declared.state.Verdict.{Verdict}
use Rattle.device.specs.declared.state.Verdict.TheVariants.{Accepted, Rejected, Unconfirmed, Deferred, Unsent, InDoubt}
use Rattle.demand.specs.Clean.{clean_verdicts, matching}
use Rattle.demand.specs.Demand.{Fair, Legal, decides, verdict_at}
use Rattle.demand.specs.Final.{Finals, confirming, final_verdicts, past_blocks, standing_in}
use Rattle.demand.specs.Run.{Damage, Damages, Ends, Inputs, Transit, after, answer, exchange, final, follows, hit, most_transmissions, next, noted, responds, run, start}
use Rattle.demand.specs.Run as Run
use Rattle.demand.proofs.Agreement.{decided-clean, decided_early}
use Rattle.demand.proofs.CleanClose.{clean-confirms}
use Rattle.demand.proofs.Lines.{claim, clean_run}
use Rattle.demand.proofs.Stops.{run-stops}

-- ── Early or late ──

-- the same inputs, early or late
module _ {J : Type 0} (i : Inputs J) (c : Confirmation) where
  -- the central hears the same
  responds-confirmed : (d : Damage) (e : Ends J) → responds (confirming i c) d e ≡ responds i d e
  unfolding responds
  responds-confirmed d e = rw (string-confirmed i.device c i.job e.step)

  -- the device makes the same move
  follows-confirmed : (d : Transit) (e : Ends J) → follows (confirming i c) d e ≡ follows i d e
  unfolding follows
  follows-confirmed d e = rw (responds-confirmed d.out e) (moves-confirmed i.device c i.job e.step (reply_read (hit d.back (answer i d.out e))))

  -- so an exchange is the same
  exchange-confirmed : (d : Transit) (e : Ends J) → exchange (confirming i c) d e ≡ exchange i d e
  unfolding exchange
  exchange-confirmed d e = rw (follows-confirmed d e, responds-confirmed d.out e, string-confirmed i.device c i.job e.step)

  -- and so are more of them
  after-confirmed : (n : ℕ) (ds : Damages) (e : Ends J) → after (confirming i c) n ds e ≡ after i n ds e
  unfolding after
  after-confirmed zero ds e = refl
  after-confirmed (suc n) ds e = rw (exchange-confirmed (next ds) e) (after-confirmed n (tail ds) (exchange i (next ds) e))

  -- and so is the run
  same-run : (ds : Damages) → final (confirming i c) ds ≡ final i ds
  same-run ds = rw (blocks_alike (with_confirmation i.device c) i.device refl i.job) (after-confirmed (most_transmissions i) ds (start i))

-- ── From the close on ──

-- a move of a device that has sent its blocks gives nothing, and leaves it so
leads_past : {settings : Settings} {ts : List (List ℕ)} {step : Step} {r : Reply} {m : Move} → Leads settings ts step r m → past_blocks step ≡ true →
    (past_blocks m.next ≡ true) × (m.given ≡ None)
leads_past requested e = absurd (false≢true e)
leads_past (reopens _) e = absurd (false≢true e)
leads_past unanswered e = absurd (false≢true e)
leads_past admitted e = absurd (false≢true e)
leads_past (relogs _) e = absurd (false≢true e)
leads_past turned_away e = absurd (false≢true e)
leads_past (accepted _) e = absurd (false≢true e)
leads_past (continued _) e = absurd (false≢true e)
leads_past (resends _) e = absurd (false≢true e)
leads_past (exhausted _) e = absurd (false≢true e)
leads_past rejected e = absurd (false≢true e)
leads_past hung_up_lem e = absurd (false≢true e)
leads_past (unconfirmed _) e = absurd (false≢true e)
leads_past (recloses _) e = (refl, refl)
leads_past reported e = (refl, refl)
leads_past stays e = (refl, refl)

-- a run
module _ {J : Type 0} (i : Inputs J) where
  -- an exchange then changes no verdict
  exchange_past : (d : Transit) (e : Ends J) → past_blocks e.step ≡ true → (past_blocks (exchange i d e).step ≡ true) × ((exchange i d e).verdicts ≡ e.verdicts)
  unfolding exchange follows
  exchange_past d e h =
      let (past, none) = leads_past (moves_lead i.device i.job e.step (reply_read (hit d.back (answer i d.out e)))) h in
      (past, ap (λ given. noted given e.verdicts) none)

  -- nor do more of them
  after_past : (n : ℕ) (ds : Damages) (e : Ends J) → past_blocks e.step ≡ true → (after i n ds e).verdicts ≡ e.verdicts
  unfolding after
  after_past zero ds e h = refl
  after_past (suc n) ds e h =
      let (past, same) = exchange_past (next ds) e h in
      after_past n (tail ds) (exchange i (next ds) e) past ∙ same

  -- so the verdicts after n are those after any more
  after-later : (n m : ℕ) (ds : Damages) (e : Ends J) → n ≤ m → past_blocks (after i n ds e).step ≡ true → (after i m ds e).verdicts ≡ (after i n ds e).verdicts
  unfolding after
  after-later zero m ds e l h = after_past m ds e h
  after-later (suc n) zero ds e l h = absurd (omega arith)
  after-later (suc n) (suc m) ds e l h = after-later n m (tail ds) (exchange i (next ds) e) (omega arith) h

-- ── At the stop ──

-- what is reported first stays
reported-first : (report : Report) → Run.reported report Reporting.Nothing ≡ report
reported-first (Reporting.Close r) = refl
reported-first Reporting.Nothing = refl

-- both ends of a run that has reported nothing yet, and the next exchange
module _ {J : Type 0} (i : Inputs J) (d : Transit) (e : Ends J) (h : e.report ≡ Reporting.Nothing) where
  -- it reports what the device's move does
  exchange-reports : (exchange i d e).report ≡ (follows i d e).report
  unfolding exchange
  exchange-reports = ap (Run.reported (follows i d e).report) h ∙ reported-first (follows i d e).report

  -- so the accepted verdicts stand as that move says
  pub exchange-stands : standing_in i (exchange i d e) ≡ standing_at i.device.confirmation (follows i d e).next (follows i d e).report
  unfolding exchange
  exchange-stands = ap (standing_at i.device.confirmation (follows i d e).next) exchange-reports

  -- and where the device goes on there is still nothing
  pub exchange-unreported : is_stopped (exchange i d e).step ≡ false → (exchange i d e).report ≡ Reporting.Nothing
  unfolding exchange follows
  exchange-unreported goes = exchange-reports ∙ moves-unreported i.device i.job e.step (reply_read (hit d.back (answer i d.out e))) goes

-- ── Settled ──

-- a verdict that is still decided was not put in doubt
doubted-decides : (v : Verdict) → decides (doubted v) ≡ true → (decides v ≡ true) × (doubted v ≡ v)
doubted-decides Accepted e = absurd (false≢true e)
doubted-decides Rejected e = (refl, refl)
doubted-decides Unconfirmed e = absurd (false≢true e)
doubted-decides Deferred e = absurd (false≢true e)
doubted-decides Unsent e = absurd (false≢true e)
doubted-decides InDoubt e = absurd (false≢true e)

-- so it is the provisional one
settled-decides : (standing : Standing) (vs : List Verdict) (n : ℕ) → decides (verdict_at (settled standing vs) n) ≡ true →
    (decides (verdict_at vs n) ≡ true) × (verdict_at (settled standing vs) n ≡ verdict_at vs n)
settled-decides Standing.Open vs n e = (e, refl)
settled-decides Standing.Confirmed vs n e = (e, refl)
settled-decides Standing.InDoubt vs n e =
    let put = get_or-map doubted vs n Unsent in
    let (was, same) = doubted-decides (verdict_at vs n) (ap decides (sym put) ∙ e) in
    (was, put ∙ same)

-- with early nothing is settled
early_same : {J : Type 0} (i : Inputs J) → i.device.confirmation ≡ Early → (ds : Damages) → final_verdicts i ds ≡ (run i ds).verdicts
early_same i e ds =
    let last = final i ds in
    ap (λ c. settled (standing_at c last.step last.report) last.verdicts) e ∙ early_stands last.step last.report last.verdicts

-- a run that is not refused
module _ {J : Type 0} (i : Inputs J) (l : Legal i) (ds : Damages) where
  -- its verdicts are those before the close
  before_close : (n : ℕ) → past_blocks (after i n ds (start i)).step ≡ true → (after i n ds (start i)).verdicts ≡ (run i ds).verdicts
  before_close n h = go (ltb n (most_transmissions i)) refl
    where
      go : (c : Bool) → ltb n (most_transmissions i) ≡ c → (after i n ds (start i)).verdicts ≡ (run i ds).verdicts
      go true e = sym (after-later i n (most_transmissions i) ds (start i) (omega (arith, ltb-true n (most_transmissions i) e)) h)
      go false e = after-later i (most_transmissions i) n ds (start i) (ltb-false n (most_transmissions i) e) (rw (run-stops i l.job ds))

  -- with fair damage, what is decided at the end is the clean verdict
  final-clean : Fair i ds → (n : ℕ) → decides (verdict_at (final_verdicts i ds) n) ≡ true → verdict_at (final_verdicts i ds) n ≡ verdict_at (clean_verdicts i) n
  final-clean fair n h =
      let agrees = (claim i l ds fair).agrees in
      let (was, same) = settled-decides (standing_in i (final i ds)) (run i ds).verdicts n h in
      same ∙ decided-clean agrees n (decided_early agrees n was)

-- ── A clean line ──

-- with the right password the close confirms, with another all is unsent
clean-settled : {J : Type 0} (i : Inputs J) → Legal i → settled (standing_in i (final i [])) (clean_verdicts i) ≡ clean_verdicts i
unfolding clean_verdicts
clean-settled {J} i l = choice (λ vs. settled (standing_in i last) vs ≡ vs) (matching i) (λ match. confirmed match _) (λ _. unsent_settled (standing_in i last) (length i.job))
  where
    last : Ends J
    last = final i []

    confirmed : matching i ≡ true → (vs : List Verdict) → settled (standing_in i last) vs ≡ vs
    confirmed match vs =
        ap (λ step. settled (standing_at i.device.confirmation step last.report) vs) (run-stops i l.job [])
        ∙ ap (λ report. settled (standing_at i.device.confirmation Stopped report) vs) (clean-confirms i l match)
        ∙ confirmed-stands i.device.confirmation vs

-- what is claimed of final verdicts holds of every run that is not refused
pub finals : {J : Type 0} (i : Inputs J) → Legal i → Finals i
finals i l =
    record {
      same-run = same-run i;
      early_same = early_same i;
      before_close = before_close i l;
      final-clean = final-clean i l;
      clean_line = ap (settled (standing_in i (final i []))) (clean_run i l).verdicts-clean ∙ clean-settled i l;
    }
