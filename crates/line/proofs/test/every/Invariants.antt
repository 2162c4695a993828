-- `every` meets its contract: the answer so far and what the loop has still to test decide together.
use mathlib.Core.Bool.{◌&&◌}
use mathlib.Core.Path.{◌≡◌}
use Prim.Native.Nat.{◌≤◌}
use lib.ListN.{length, drop}
use Rattle.line.specs.Test.{all}
use Rattle.line.proofs.test.every.Given as goal

abbrev pub invariant-loop-byte : goal.invariant-loop-byte
invariant-loop-byte g l =
    let passes = g.T.Test.passes l.test in
    (l.byte-index ≤ length l.bytes) × (all passes l.bytes ≡ (l.every && all passes (drop l.byte-index l.bytes)))
