-- What becomes of accepted verdicts at the stop (document 02, wish 4), and verdicts settled.
use Rattle.std.specs.Prelude.{None, Some, Bool, true, false, List, map, ℕ, eqb, if◌then◌else◌}
use Rattle.reply.specs.declared.Meaning.TheVariants.{IdRequest, Acceptance, Ack, Nak, Rs, Eot}
use Rattle.device.specs.declared.settling.Standing.{Standing}
use Rattle.device.specs.declared.settling.Standing.TheVariants.{Open, Confirmed, InDoubt}
use Rattle.device.specs.declared.state.Confirmation.{Confirmation}
use Rattle.device.specs.declared.state.Confirmation.TheVariants.{Early, Late}
use Rattle.device.specs.declared.state.Report.{Report}
use Rattle.device.specs.declared.state.Report.TheVariants as Reporting
use Rattle.device.specs.declared.state.Settings.{Settings}
use Rattle.device.specs.declared.state.Step.{Step}
use Rattle.device.specs.declared.state.Step.TheVariants.{Opening, Logon, Sending, Closing, Stopped}
use Rattle.device.specs.declared.state.Verdict.{Verdict}
use Rattle.device.specs.declared.state.Verdict.TheVariants as Verdicts

-- the same settings, early or late
abbrev pub with_confirmation : Settings → Confirmation → Settings
with_confirmation settings c =
    record { password = settings.password; retries = settings.retries; way = settings.way; confirmation = c }

-- ── At the stop ──

-- the device has stopped (R-6.11)
abbrev pub is_stopped : Step → Bool
is_stopped (Opening p) = false
is_stopped (Logon p) = false
is_stopped (Sending p) = false
is_stopped (Closing p) = false
is_stopped Stopped = true

-- what a call reports confirms its accepted verdicts: the close was answered with ESC EOT, and with nothing else (R-6.11)
abbrev pub confirms : Report → Bool
confirms (Reporting.Close (Some Eot)) = true
confirms (Reporting.Close (Some IdRequest)) = false
confirms (Reporting.Close (Some Acceptance)) = false
confirms (Reporting.Close (Some Ack)) = false
confirms (Reporting.Close (Some Nak)) = false
confirms (Reporting.Close (Some Rs)) = false
confirms (Reporting.Close None) = false
confirms Reporting.Nothing = false

-- how they stand at a stop: with early they stay, with late they are in doubt unless confirmed (R-6.11)
abbrev pub standing_by : Confirmation → Report → Standing
standing_by Early report = Confirmed
standing_by Late report = if confirms report then Confirmed else InDoubt

-- how they stand at a step: open until the device has stopped (R-6.11)
abbrev pub standing_at : Confirmation → Step → Report → Standing
standing_at confirmation step report = if is_stopped step then standing_by confirmation report else Open

-- ── Settled ──

-- members settled, each by what doubt makes of it (R-6.12)
abbrev pub settled_by : {A : Type 0} → (A → A) → Standing → List A → List A
settled_by doubt Open xs = xs
settled_by doubt Confirmed xs = xs
settled_by doubt InDoubt xs = map doubt xs

-- a verdict put in doubt: accepted becomes in doubt, and no other changes (R-6.12)
abbrev pub doubted : Verdict → Verdict
doubted Verdicts.Accepted = Verdicts.InDoubt
doubted Verdicts.Rejected = Verdicts.Rejected
doubted Verdicts.Unconfirmed = Verdicts.Unconfirmed
doubted Verdicts.Deferred = Verdicts.Deferred
doubted Verdicts.Unsent = Verdicts.Unsent
doubted Verdicts.InDoubt = Verdicts.InDoubt

-- verdicts settled (R-6.12)
abbrev pub settled : Standing → List Verdict → List Verdict
settled = settled_by doubted

-- a byte of a verdict buffer put in doubt: 1 becomes 6, and no other changes (R-6.12)
abbrev pub doubted_number : ℕ → ℕ
doubted_number n = if eqb n 1 then 6 else n

-- a verdict buffer settled (R-6.12)
abbrev pub settled_numbers : Standing → List ℕ → List ℕ
settled_numbers = settled_by doubted_number
