-- Demand 3: the bad line, the clean line, and the same faults under higher limits.
use Rattle.demand.specs.Demand.{Legal, Demand3}
use Rattle.demand.specs.Run.{Inputs}
use Rattle.demand.proofs.FaultLaws.{faults_fair}
use Rattle.demand.proofs.Lines.{claim, clean_run, clean-first}
use Rattle.demand.proofs.SameFaults.{faults_kept}

-- demand 3 holds of every run that is not refused
pub demand3 : {J : Type 0} (i : Inputs J) → Legal i → Demand3 i
demand3 i l =
    record {
      bad_line = claim i l;
      clean_line = clean_run i l;
      clean-first = clean-first i l;
      faults_kept = faults_kept i l;
      faults_fair = faults_fair i l;
    }
