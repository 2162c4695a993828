-- The run of both ends over a line that may damage what it carries (document 01, "The run"): over the steps' own
-- definitions, byte for byte, whatever the central's journal is made of.
use mathlib.Core.List.{List, [], ◌∷◌, tail}
use Rattle.std.specs.Prelude.{Option, Some, None, ℕ, zero, suc, ◌+◌, ◌*◌, length, set, replicate}
use Rattle.central.specs.Hearing.{heard}
use Rattle.central.specs.Reaction.{Rules, Central, Reaction, at, reacts, answer_bytes}
use Rattle.central.specs.declared.state.Stage.TheVariants.{Idle}
use Rattle.device.specs.Bound.{job_blocks}
use Rattle.device.specs.Reaction.{Move, first, moves, bytes_of_string}
use Rattle.device.specs.declared.state.Given.{Given}
use Rattle.device.specs.declared.state.Report.{Report}
use Rattle.device.specs.declared.state.Report.TheVariants as Reporting
use Rattle.device.specs.declared.state.Settings.{Settings}
use Rattle.device.specs.declared.state.Step.{Step}
use Rattle.device.specs.declared.state.Step.TheVariants.{Opening}
use Rattle.device.specs.declared.state.Verdict.{Verdict}
use Rattle.device.specs.declared.state.Verdict.TheVariants.{Unsent}
use Rattle.reply.specs.Reading.{reply_read}

-- ── Damage ──

-- what becomes of a string on the line: it arrives whole, or nothing does, or other bytes do (R-10.4)
pub data Damage : Type 0 where
  whole nothing : Damage
  other : List ℕ → Damage

-- what arrives of a string; an empty string stays empty (R-10.4)
abbrev pub hit : Damage → List ℕ → List ℕ
hit d [] = []
hit whole (b ∷ bs) = b ∷ bs
hit nothing (b ∷ bs) = []
hit (other bytes) (b ∷ bs) = bytes

-- the damage to one transmission: two entries, for the string and for its answer (R-10.4)
pub record Transit : Type 0 where
  pub out : Damage
  pub back : Damage

-- a list of damage (R-10.4)
abbrev pub Damages : Type 0
Damages = List Transit

-- the entries of the next transmission; past the end of the list all is whole (R-10.4)
abbrev pub next : Damages → Transit
next [] = record { out = whole; back = whole }
next (d ∷ ds) = d

-- ── Both ends ──

-- what a run takes: the job, the device's settings (its password, D, its way of cutting), the central's rules (its password,
-- L, C, the pager list, its journal's room), and the starting journal (R-10.1)
pub record Inputs (J : Type 0) : Type 0 where
  pub job : List (List ℕ)
  pub device : Settings
  pub rules : Rules J
  pub journal : J

-- both ends between two transmissions: the device's step, the verdicts so far and what it reported; the central; and how
-- many strings the device has put out (R-10.1)
pub record Ends (J : Type 0) : Type 0 where
  pub step : Step
  pub verdicts : List Verdict
  pub report : Report
  pub central : Central J
  pub transmissions : ℕ

-- a verdict that is given is put in its place (R-10.2)
abbrev pub noted : Option Given → List Verdict → List Verdict
noted (Some given) vs = set vs given.transaction given.verdict
noted None vs = vs

-- what is reported stays reported (R-10.2)
abbrev pub reported : Report → Report → Report
reported (Reporting.Close r) before = Reporting.Close r
reported Reporting.Nothing before = before

-- a string counts as one transmission, no string as none (R-10.3)
abbrev pub counted : List ℕ → ℕ
counted [] = 0
counted (b ∷ bs) = 1

-- what a run comes to: the verdict of each transaction, the journal, the number of transmissions
pub record Outcome (J : Type 0) : Type 0 where
  pub verdicts : List Verdict
  pub journal : J
  pub transmissions : ℕ

-- over any journal type
module _ {J : Type 0} where
  -- the device starts at Opening with every verdict unsent, the central at Idle (R-10.1)
  abbrev pub start : Inputs J → Ends J
  start i =
      record {
        step = Opening first;
        verdicts = replicate (length i.job) Unsent;
        report = Reporting.Nothing;
        central = at Idle [] i.journal;
        transmissions = 0;
      }

  -- ── One transmission ──

  -- the string that the device puts out; none once it has stopped (R-10.2)
  abbrev pub string : Inputs J → Ends J → List ℕ
  string i e = bytes_of_string i.device i.job e.step

  -- what the central does with what arrives of it (R-10.2)
  unfoldable pub responds : Inputs J → Damage → Ends J → Reaction J
  responds i d e = reacts i.rules e.central e.central.stage (heard e.central.stage (hit d (string i e)))

  -- the answer that the central puts out (R-10.2)
  abbrev pub answer : Inputs J → Damage → Ends J → List ℕ
  answer i d e = answer_bytes (responds i d e).answer

  -- what the device does with what arrives of it (R-10.2)
  unfoldable pub follows : Inputs J → Transit → Ends J → Move
  follows i d e = moves i.device i.job e.step (reply_read (hit d.back (answer i d.out e)))

  -- both ends after one transmission and its answer; once the device has stopped nothing moves (R-10.2, R-10.3)
  unfoldable pub exchange : Inputs J → Transit → Ends J → Ends J
  exchange i d e =
      record {
        step = (follows i d e).next;
        verdicts = noted (follows i d e).given e.verdicts;
        report = reported (follows i d e).report e.report;
        central = (responds i d.out e).next;
        transmissions = e.transmissions + counted (string i e);
      }

  -- ── The run ──

  -- both ends after so many transmissions (R-10.2)
  unfoldable pub after : Inputs J → ℕ → Damages → Ends J → Ends J
  after i zero ds e = e
  after i (suc n) ds e = after i n (tail ds) (exchange i (next ds) e)

  -- as many transmissions as a run takes at most: three for the opening, and D + 1 for the logon, for each block and for the
  -- close (R-10.2)
  abbrev pub most_transmissions : Inputs J → ℕ
  most_transmissions i = 3 + (i.device.retries + 1) * (job_blocks i.device i.job + 2)

  -- both ends once the device has stopped (R-10.2)
  abbrev pub final : Inputs J → Damages → Ends J
  final i ds = after i (most_transmissions i) ds (start i)

  -- what both ends hold of what a run comes to
  abbrev pub outcome : Ends J → Outcome J
  outcome e = record { verdicts = e.verdicts; journal = e.central.journal; transmissions = e.transmissions }

  -- the run over a list of damage (R-10.2)
  abbrev pub run : Inputs J → Damages → Outcome J
  run i ds = outcome (final i ds)
