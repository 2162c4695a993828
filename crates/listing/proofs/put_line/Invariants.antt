-- `put_line` meets its contract: after i turns the first i blocks are printed at the start of the output, in at most 1,281 bytes each, and one more is the last.
use mathlib.Core.List.{flat_map}
use mathlib.Core.Path.{◌≡◌}
use Prim.Native.Nat.{◌*◌, ◌≤◌}
use lib.ListN.{length, take}
use Rattle.segmentation.specs.Segmentation.{segmentation}
use Rattle.listing.specs.Listing.{Added, fields_of, printed_block}
use Rattle.listing.proofs.put_line.Given as goal

abbrev pub invariant-loop-index : goal.invariant-loop-index
invariant-loop-index l = (l.index ≤ l.last) × (l.at ≤ 1281 * l.index) × (length l.out ≡ length l.initial.out) × Added 0 (flat_map printed_block (take l.index (segmentation (fields_of l.line)))) l.at l.initial.out l.out
