-- The clean verdicts and the clean journals (document 01, "The run"): worked out from the job, the rules and the starting
-- journal, with no run.
use Rattle.std.specs.Prelude.{Bool, ℕ, length, take, replicate, if◌then◌else◌}
use mathlib.Core.List.{List, [], ◌∷◌, foldl}
use Rattle.line.specs.Password.{password_text}
use Rattle.line.specs.Test.{same}
use Rattle.central.specs.Reaction.{meets}
use Rattle.device.specs.declared.state.Verdict.{Verdict}
use Rattle.device.specs.declared.state.Verdict.TheVariants.{Accepted, Rejected, Unsent}
use Rattle.demand.specs.Run.{Inputs}

-- ── The fold ──

-- whatever a journal is, which transactions it admits and how one is put into it
module _ {J : Type 0} (admits : J → List ℕ → Bool) (put : J → List ℕ → J) where
  -- the verdict of a transaction: one that is admitted is accepted, any other rejected (R-10.7)
  unfoldable pub judged : J → List ℕ → Verdict
  judged journal t = if admits journal t then Accepted else Rejected

  -- the journal after it: one that is admitted is put in, any other changes nothing (R-10.7)
  unfoldable pub stored : J → List ℕ → J
  stored journal t = if admits journal t then put journal t else journal

  -- the verdicts of transactions, first to last (R-10.7)
  unfoldable pub all_judged : J → List (List ℕ) → List Verdict
  all_judged journal [] = []
  all_judged journal (t ∷ ts) = judged journal t ∷ all_judged (stored journal t) ts

  -- the journal after them (R-10.7)
  abbrev pub all_stored : J → List (List ℕ) → J
  all_stored journal ts = foldl stored journal ts

  -- the clean verdicts of a job; where the passwords do not match, all are unsent
  abbrev pub verdicts_of : Bool → J → List (List ℕ) → List Verdict
  verdicts_of match journal job = if match then all_judged journal job else replicate (length job) Unsent

  -- the clean journal after k transactions of a job; where the passwords do not match, the starting one
  abbrev pub journal_of : Bool → J → List (List ℕ) → ℕ → J
  journal_of match journal job k = if match then all_stored journal (take k job) else journal

-- ── A run's ──

-- over any journal type
module _ {J : Type 0} where
  -- both passwords are equal (R-10.7)
  abbrev pub matching : Inputs J → Bool
  matching i = same (password_text i.device.password) i.rules.password

  -- the clean verdicts (R-10.7)
  unfoldable pub clean_verdicts : Inputs J → List Verdict
  clean_verdicts i = verdicts_of (meets i.rules) i.rules.storage.put (matching i) i.journal i.job

  -- the clean journal after k transactions (R-10.7)
  unfoldable pub clean_journal : Inputs J → ℕ → J
  clean_journal i k = journal_of (meets i.rules) i.rules.storage.put (matching i) i.journal i.job k
