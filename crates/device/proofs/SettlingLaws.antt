-- Laws of early and late: that moves and strings are the same, that a move reports only where it stops, and what settling changes.
use Rattle.std.specs.Prelude.{None, Some}
use mathlib.Core.Bool.{true, false, false≢true}
use mathlib.Core.List.{List, [], ◌∷◌, map}
use mathlib.Core.Path.{◌≡◌, refl, sym}
use Prim.Native.Nat.{ℕ, zero, suc}
use lib.ListN.{length, replicate, length-map}
use Rattle.reply.specs.declared.Meaning.TheVariants.{IdRequest, Acceptance, Ack, Nak, Rs, Eot}
use Rattle.reply.specs.Reading.{Reply}
use Rattle.device.specs.Reaction.{Move, moves, segments_of, bytes_of_string, verdict_number}
use Rattle.device.specs.Settling.{with_confirmation, is_stopped, standing_at, doubted, doubted_number, settled, settled_numbers}
use Rattle.device.specs.declared.settling.Standing.{Standing}
use Rattle.device.specs.declared.settling.Standing.TheVariants.{Open, Confirmed, InDoubt}
use Rattle.device.specs.declared.state.Confirmation.{Confirmation}
use Rattle.device.specs.declared.state.Confirmation.TheVariants.{Early, Late}
use Rattle.device.specs.declared.state.Report.{Report}
use Rattle.device.specs.declared.state.Report.TheVariants as Reporting
use Rattle.device.specs.declared.state.Settings.{Settings}
use Rattle.device.specs.declared.state.Step.{Step}
use Rattle.device.specs.declared.state.Step.TheVariants.{Opening, Logon, Sending, Closing, Stopped}
use Rattle.device.specs.declared.state.Verdict.{Verdict}
use Rattle.device.specs.declared.state.Verdict.TheVariants as Verdicts
use Rattle.device.proofs.MoveLaws.{Leads, requested, reopens, unanswered, admitted, relogs, turned_away, accepted, continued, resends, exhausted, rejected, hung_up_lem, unconfirmed, recloses, reported, stays, moves_lead}

-- ── Early or late ──

-- what holds of each reply
each-reply : (P : Reply → Type 0) → P (Some IdRequest) → P (Some Acceptance) → P (Some Ack) → P (Some Nak) → P (Some Rs) → P (Some Eot) → P None → (r : Reply) → P r
each-reply P a b c d e f g (Some IdRequest) = a
each-reply P a b c d e f g (Some Acceptance) = b
each-reply P a b c d e f g (Some Ack) = c
each-reply P a b c d e f g (Some Nak) = d
each-reply P a b c d e f g (Some Rs) = e
each-reply P a b c d e f g (Some Eot) = f
each-reply P a b c d e f g None = g

-- settings that differ in that alone
module _ (settings : Settings) (c : Confirmation) (ts : List (List ℕ)) where
  -- move alike at a reply
  abbrev Alike : Step → Reply → Type 0
  Alike step r = moves (with_confirmation settings c) ts step r ≡ moves settings ts step r

  -- at every reply
  pub moves-confirmed : (step : Step) (r : Reply) → Alike step r
  unfolding moves segments_of
  moves-confirmed (Opening p) r = refl
  moves-confirmed (Logon p) r = each-reply (Alike (Logon p)) refl refl refl refl refl refl refl r
  moves-confirmed (Sending p) r = each-reply (Alike (Sending p)) refl refl refl refl refl refl refl r
  moves-confirmed (Closing p) r = each-reply (Alike (Closing p)) refl refl refl refl refl refl refl r
  moves-confirmed Stopped r = refl

  -- and send alike
  pub string-confirmed : (step : Step) → bytes_of_string (with_confirmation settings c) ts step ≡ bytes_of_string settings ts step
  unfolding segments_of
  string-confirmed (Opening p) = refl
  string-confirmed (Logon p) = refl
  string-confirmed (Sending p) = refl
  string-confirmed (Closing p) = refl
  string-confirmed Stopped = refl

-- ── At the stop ──

-- a device that has stopped is at that step
pub is-stopped : (step : Step) → is_stopped step ≡ true → step ≡ Stopped
is-stopped (Opening p) e = absurd (false≢true e)
is-stopped (Logon p) e = absurd (false≢true e)
is-stopped (Sending p) e = absurd (false≢true e)
is-stopped (Closing p) e = absurd (false≢true e)
is-stopped Stopped e = refl

-- a move that does not stop reports nothing
leads-unreported : {settings : Settings} {ts : List (List ℕ)} {step : Step} {r : Reply} {m : Move} → Leads settings ts step r m → is_stopped m.next ≡ false → m.report ≡ Reporting.Nothing
leads-unreported requested e = refl
leads-unreported (reopens _) e = refl
leads-unreported unanswered e = refl
leads-unreported admitted e = refl
leads-unreported (relogs _) e = refl
leads-unreported turned_away e = refl
leads-unreported (accepted _) e = refl
leads-unreported (continued _) e = refl
leads-unreported (resends _) e = refl
leads-unreported (exhausted _) e = refl
leads-unreported rejected e = refl
leads-unreported hung_up_lem e = refl
leads-unreported (unconfirmed _) e = refl
leads-unreported (recloses _) e = refl
leads-unreported reported e = absurd (false≢true (sym e))
leads-unreported stays e = refl

-- so the step behind every reply
pub moves-unreported : (settings : Settings) (ts : List (List ℕ)) (step : Step) (r : Reply) → is_stopped (moves settings ts step r).next ≡ false → (moves settings ts step r).report ≡ Reporting.Nothing
moves-unreported settings ts step r e = leads-unreported (moves_lead settings ts step r) e

-- an early device never doubts
pub early_stands : (step : Step) (report : Report) (vs : List Verdict) → settled (standing_at Early step report) vs ≡ vs
early_stands (Opening p) report vs = refl
early_stands (Logon p) report vs = refl
early_stands (Sending p) report vs = refl
early_stands (Closing p) report vs = refl
early_stands Stopped report vs = refl

-- after ESC EOT to the close neither does a late one
pub confirmed-stands : (confirmation : Confirmation) (vs : List Verdict) → settled (standing_at confirmation Stopped (Reporting.Close (Some Eot))) vs ≡ vs
confirmed-stands Early vs = refl
confirmed-stands Late vs = refl

-- ── What settling changes ──

-- a verdict's number is put in doubt as the verdict is
doubted-number : (v : Verdict) → doubted_number (verdict_number v) ≡ verdict_number (doubted v)
doubted-number Verdicts.Accepted = refl
doubted-number Verdicts.Rejected = refl
doubted-number Verdicts.Unconfirmed = refl
doubted-number Verdicts.Deferred = refl
doubted-number Verdicts.Unsent = refl
doubted-number Verdicts.InDoubt = refl

-- all of them
doubted-numbers : (vs : List Verdict) → map doubted_number (map verdict_number vs) ≡ map verdict_number (map doubted vs)
doubted-numbers [] = refl
doubted-numbers (v ∷ vs) = rw (doubted-number v, doubted-numbers vs)

-- a buffer of verdict numbers is settled as the verdicts are
pub numbers-settled : (standing : Standing) (vs : List Verdict) → settled_numbers standing (map verdict_number vs) ≡ map verdict_number (settled standing vs)
numbers-settled Open vs = refl
numbers-settled Confirmed vs = refl
numbers-settled InDoubt vs = doubted-numbers vs

-- nothing is changed where all are unsent
pub unsent_settled : (standing : Standing) (n : ℕ) → settled standing (replicate n Verdicts.Unsent) ≡ replicate n Verdicts.Unsent
unsent_settled Open n = refl
unsent_settled Confirmed n = refl
unsent_settled InDoubt zero = refl
unsent_settled InDoubt (suc n) = rw (unsent_settled InDoubt n)

-- there are as many
pub settled-length : (standing : Standing) (vs : List Verdict) → length (settled standing vs) ≡ length vs
settled-length Open vs = refl
settled-length Confirmed vs = refl
settled-length InDoubt vs = length-map vs doubted
