-- `checksum` meets its contract: the sum so far, folded on over what is still to come, is the checksum of the whole.
use mathlib.Core.Path.{◌≡◌}
use mathlib.Core.List.{foldl}
use Prim.Native.Nat.{◌≤◌}
use lib.ListN.{length, drop}
use Rattle.block.specs.Checksum as Checksum
use Rattle.block.proofs.checksum.checksum.Given as goal

abbrev pub invariant-loop-c : goal.invariant-loop-c
invariant-loop-c l = (l.c-index ≤ length l.text) × (foldl Checksum.added l.sum (drop l.c-index l.text) ≡ Checksum.checksum l.text)
