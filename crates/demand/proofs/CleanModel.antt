-- The clean fold of specs/Clean at the model's parameters.
use mathlib.Core.List.{List}
use Prim.Native.Nat.{ℕ}
use Rattle.device.specs.declared.state.Verdict.{Verdict}
use Rattle.demand.specs.Clean.{judged, stored, all_judged, verdicts_of, journal_of}
use Rattle.demand.proofs.Messages.{Parameters}

module _ (R : Parameters) where
  open R use {J, admits, put, match}

  -- the verdict of a transaction
  abbrev pub judged_by : J → List ℕ → Verdict
  judged_by = judged admits put

  -- the journal behind it
  abbrev pub stored_by : J → List ℕ → J
  stored_by = stored admits put

  -- the verdicts of a job
  abbrev pub all_judged_by : J → List (List ℕ) → List Verdict
  all_judged_by = all_judged admits put

  -- its clean verdicts
  abbrev pub verdicts_by : J → List (List ℕ) → List Verdict
  verdicts_by = verdicts_of admits put match

  -- the clean journal after the first k transactions
  abbrev pub journal_by : J → List (List ℕ) → ℕ → J
  journal_by = journal_of admits put match
