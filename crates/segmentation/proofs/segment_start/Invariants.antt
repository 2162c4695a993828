-- `segment_start` meets its contract: behind i turns it is where i blocks end.
use mathlib.Core.Path.{◌≡◌}
use Prim.Native.Nat.{◌≤◌}
use lib.ListN.{length, drop}
use Rattle.segmentation.specs.Segmentation.{behind, cut_by}
use Rattle.segmentation.proofs.segment_start.Given as goal

abbrev pub invariant-loop : goal.invariant-loop
invariant-loop l = (l.from ≤ length l.info) × (drop l.from l.info ≡ behind (cut_by l.way) l.counter l.info)
