-- The final verdicts of a run (document 02, wish 4): with late those of the early run, settled at the end.
use Rattle.std.specs.Prelude.{Bool, true, false, List, [], ◌≡◌, ℕ}
use Rattle.device.specs.Settling.{with_confirmation, standing_at, settled}
use Rattle.device.specs.declared.settling.Standing.{Standing}
use Rattle.device.specs.declared.state.Confirmation.{Confirmation}
use Rattle.device.specs.declared.state.Confirmation.TheVariants.{Early}
use Rattle.device.specs.declared.state.Step.{Step}
use Rattle.device.specs.declared.state.Step.TheVariants.{Opening, Logon, Sending, Closing, Stopped}
use Rattle.device.specs.declared.state.Verdict.{Verdict}
use Rattle.demand.specs.Clean.{clean_verdicts}
use Rattle.demand.specs.Demand.{Fair, decides, verdict_at}
use Rattle.demand.specs.Run.{Damages, Inputs, Ends, start, after, final, run}

-- the device has sent its blocks: it closes, or has stopped (R-10.11)
abbrev pub past_blocks : Step → Bool
past_blocks (Opening p) = false
past_blocks (Logon p) = false
past_blocks (Sending p) = false
past_blocks (Closing p) = true
past_blocks Stopped = true

-- over any journal type
module _ {J : Type 0} where
  -- the same inputs, early or late (R-10.11)
  abbrev pub confirming : Inputs J → Confirmation → Inputs J
  confirming i c = record { job = i.job; device = with_confirmation i.device c; rules = i.rules; journal = i.journal }

  -- how the accepted verdicts stand at the ends of a run: open until the device has stopped, then by what it reported (R-10.11)
  abbrev pub standing_in : Inputs J → Ends J → Standing
  standing_in i e = standing_at i.device.confirmation e.step e.report

  -- the verdicts so far, settled (R-10.11)
  abbrev pub settled_in : Inputs J → Ends J → List Verdict
  settled_in i e = settled (standing_in i e) e.verdicts

  -- the final verdicts of the run over a list of damage; those of `run` are the provisional ones (R-10.11)
  abbrev pub final_verdicts : Inputs J → Damages → List Verdict
  final_verdicts i ds = settled_in i (final i ds)

-- what is claimed of the final verdicts (R-10.11)
pub record Finals {J : Type 0} (i : Inputs J) : Type 0 where
  -- early or late, both ends come to the same: only the settling differs
  pub same-run : (c : Confirmation) (ds : Damages) → final (confirming i c) ds ≡ final i ds
  -- with early the final verdicts are the provisional ones
  pub early_same : i.device.confirmation ≡ Early → (ds : Damages) → final_verdicts i ds ≡ (run i ds).verdicts
  -- the provisional verdicts are those before the close, or behind the stop where a call never comes to it
  pub before_close : (ds : Damages) (n : ℕ) → past_blocks (after i n ds (start i)).step ≡ true →
      (after i n ds (start i)).verdicts ≡ (run i ds).verdicts
  -- a bad line: a final accepted or rejected is the clean one
  pub final-clean : (ds : Damages) → Fair i ds → (n : ℕ) → decides (verdict_at (final_verdicts i ds) n) ≡ true →
      verdict_at (final_verdicts i ds) n ≡ verdict_at (clean_verdicts i) n
  -- a clean line: the close confirms, and the final verdicts are the clean ones, with late too
  pub clean_line : final_verdicts i [] ≡ clean_verdicts i
