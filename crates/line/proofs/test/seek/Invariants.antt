-- `seek` meets its contract: the place that is looked for stays the same, counted from each place that the loop has reached.
use mathlib.Core.Path.{◌≡◌}
use Prim.Native.Nat.{◌+◌, ◌≤◌, max}
use lib.ListN.{length, drop}
use Rattle.line.specs.Test.{before_first}
use Rattle.line.proofs.test.seek.Given as goal

abbrev pub invariant-loop-i : goal.invariant-loop-i
invariant-loop-i g l =
    let passes = g.T.Test.passes l.test in
    (l.from ≤ l.i) × (l.i ≤ max l.from (length l.bytes)) ×
    (l.from + before_first passes (drop l.from l.bytes) ≡ l.i + before_first passes (drop l.i l.bytes))
