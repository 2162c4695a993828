-- `put_parity` meets its contract: after i turns the first i characters lie over the start of the output, each with its parity.
use mathlib.Core.Path.{◌≡◌}
use mathlib.Core.List.{map}
use Prim.Native.Nat.{◌≤◌, ◌-◌}
use lib.ListN.{length, take}
use Rattle.line.specs.Answer.{overlay}
use Rattle.line.specs.Parity.{with_parity}
use Rattle.line.proofs.parity.put_parity.Given as goal

abbrev pub invariant-loop-i : goal.invariant-loop-i
invariant-loop-i l = (l.i ≤ length l.text) × (length l.out ≡ length l.initial.out) × (l.out ≡ overlay (take l.i (map with_parity l.text)) l.initial.out)

abbrev pub decreases-loop-i : goal.decreases-loop-i
decreases-loop-i l = length l.text - l.i
