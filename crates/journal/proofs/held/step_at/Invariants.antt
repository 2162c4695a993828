-- `step_at` meets its contract: the cursor goes on lending the whole journal, and stands where so many steps lead.
use mathlib.Core.Path.{◌≡◌}
use Prim.Native.Nat.{◌≤◌}
use Rattle.line.specs.Answer.{outcome_of}
use Rattle.journal.specs.Walk.{cursor_at}
use Rattle.journal.proofs.held.step_at.Given as goal

abbrev pub invariant-loop : goal.invariant-loop
invariant-loop l = record {
  within : l.counter ≤ l.index;
  lent : l.cursor.journal.now ≡ l.journal;
  stands : outcome_of l.cursor.at ≡ cursor_at l.journal l.counter;
}
