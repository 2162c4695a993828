-- `complete_fields` meets its contract: behind more characters than are left to be looked at no field is complete.
use mathlib.Core.Path.{◌≡◌}
use Prim.Native.Nat.{◌≤◌, min}
use lib.ListN.{length}
use Rattle.segmentation.specs.Segmentation.{complete}
use Rattle.segmentation.proofs.way.complete_fields.Given as goal

abbrev pub invariant-loop-n : goal.invariant-loop-n
invariant-loop-n l = (l.n ≤ length l.rest) × (min (length l.rest) (complete 250 l.rest) ≡ complete l.n l.rest)
