-- What is asked of the rules and of the cutting of the job, and what is claimed of the verdicts and the journal that a run leaves.
use mathlib.Core.Bool.{true, false}
use mathlib.Core.Path.{◌≡◌}
use mathlib.Core.List.{List, [], ◌∷◌, ◌++◌}
use lib.ListN.{length}
use Prim.Native.Nat.{ℕ}
use Rattle.block.specs.Block.{Segment}
use Rattle.device.specs.declared.state.Verdict.{Verdict}
use Rattle.demand.specs.Demand.{decided, Agrees}
use Rattle.demand.proofs.Messages.{last, Parameters}
use Rattle.demand.proofs.CleanModel.{verdicts_by, journal_by}

-- ── What is asked ──

-- what is asked of the rules: the first part of what fits does too, and what is admitted fits
pub record Laws (R : Parameters) : Type 0 where
  pub fits_prefix : (a b : List ℕ) → R.fits (a ++ b) ≡ true → R.fits a ≡ true
  pub admits-fits : (j : R.J) (t : List ℕ) → R.admits j t ≡ true → R.fits t ≡ true

-- of the blocks b and bs only the final one ends the transaction, and their information joins to t
pub data Pieces : List ℕ → Segment → List Segment → Type 0 where
  final : {b : Segment} → last b ≡ true → Pieces b.info b []
  piece : {t : List ℕ} {b c : Segment} {bs : List Segment} → last b ≡ false → Pieces t c bs →
      Pieces (b.info ++ t) b (c ∷ bs)

-- every transaction of the job is cut into its pieces
pub data WellCut (R : Parameters) : List (List ℕ) → Type 0 where
  cut-none : WellCut R []
  cut-next : {t : List ℕ} {ts : List (List ℕ)} → Pieces t (R.cut t).first (R.cut t).more → WellCut R ts → WellCut R (t ∷ ts)

-- ── What is claimed ──

-- of the verdicts vs and the journal j' that a run of the job leaves, from the journal j
pub record Safe (R : Parameters) (job : List (List ℕ)) (j : R.J) (vs : List Verdict) (j' : R.J) : Type 0 where
  pub one_each : length vs ≡ length job
  pub agrees : Agrees (verdicts_by R j job) (journal_by R j job) vs j' (decided vs)
