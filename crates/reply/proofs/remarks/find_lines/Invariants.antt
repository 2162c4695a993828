-- `find_lines` meets its contract: what the search has found, and the text still to be looked at, decide what is shown.
use mathlib.Core.List.{map}
use mathlib.Core.Path.{◌≡◌}
use Prim.Native.Nat.{◌≤◌}
use lib.ListN.{length}
use Rattle.line.specs.Parity.{seven_bits}
use Rattle.reply.specs.Inner.{to_show}
use Rattle.reply.specs.Remarks.{lines_shown}
use Rattle.reply.proofs.remarks.find_lines.Given as goal

abbrev pub invariant-loop-i : goal.invariant-loop-i
invariant-loop-i l = (l.i ≤ length l.bytes) × (l.search.begin ≤ l.i) × (lines_shown (map seven_bits l.bytes) ≡ to_show l.search l.bytes l.i)
