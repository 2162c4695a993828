-- `pagers_in_range` meets its contract: the answer so far and what the loop has still to test decide together.
use mathlib.Core.Bool.{Bool, ◌&&◌}
use mathlib.Core.Path.{◌≡◌}
use Prim.Native.Nat.{ℕ, ◌≤◌}
use lib.Dec.{ltb}
use lib.ListN.{length, drop}
use Rattle.line.specs.Test.{all}
use Rattle.central.proofs.range.pagers_in_range.Given as goal

-- a pager number
abbrev number : ℕ → Bool
number n = ltb n 100000000

abbrev pub invariant-loop-n : goal.invariant-loop-n
invariant-loop-n l = (l.n-index ≤ length l.pagers) × (all number l.pagers ≡ (l.every && all number (drop l.n-index l.pagers)))
