-- `doubt` meets its contract: after i turns the first i numbers are put in doubt, and the others are as they were.
use mathlib.Core.List.{map}
use mathlib.Core.Path.{◌≡◌}
use Prim.Native.Nat.{◌≤◌}
use lib.ListN.{length, take}
use Rattle.line.specs.Answer.{overlay}
use Rattle.device.specs.Settling.{doubted_number}
use Rattle.device.proofs.settling.doubt.Given as goal

abbrev pub invariant-loop-v : goal.invariant-loop-v
invariant-loop-v l = (l.v-index ≤ length l.initial.verdicts) × (length l.verdicts ≡ length l.initial.verdicts) × (l.verdicts ≡ overlay (take l.v-index (map doubted_number l.initial.verdicts)) l.initial.verdicts)
