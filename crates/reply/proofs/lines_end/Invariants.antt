-- `lines_end` meets its contract: what follows the lines met so far, and the text still to be looked at, decide what follows them all.
use mathlib.Core.Path.{◌≡◌}
use Prim.Native.Nat.{◌≤◌}
use lib.ListN.{length, drop}
use Rattle.reply.specs.Reading.{rest_after, after_lines}
use Rattle.reply.proofs.lines_end.Given as goal

abbrev pub invariant-loop-i : goal.invariant-loop-i
invariant-loop-i l = (l.i ≤ length l.text) × (l.rest ≤ l.i) × (after_lines l.text ≡ rest_after (drop l.rest l.text) l.ended (drop l.i l.text))
