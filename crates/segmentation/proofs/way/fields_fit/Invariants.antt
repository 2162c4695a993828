-- `fields_fit` meets its contract: what is left decides; it is short, or its complete fields are passed, or a field is too long.
use mathlib.Core.Path.{◌≡◌}
use Prim.Native.Nat.{◌-◌, ◌≤◌}
use lib.ListN.{length, drop}
use Rattle.segmentation.specs.Segmentation.{fields_within}
use Rattle.segmentation.proofs.way.fields_fit.Given as goal

abbrev pub invariant-loop-from : goal.invariant-loop-from
invariant-loop-from l = (l.from ≤ length l.info) × (fields_within 250 l.info ≡ fields_within 250 (drop l.from l.info))

abbrev pub decreases-loop-from : goal.decreases-loop-from
decreases-loop-from l = length l.info - l.from
