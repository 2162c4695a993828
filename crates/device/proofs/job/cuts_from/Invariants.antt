-- `cuts_from` meets its contract: the records met so far and those that are left decide.
use mathlib.Core.Bool.{true}
use mathlib.Core.Path.{◌≡◌}
use Prim.Native.Nat.{◌≤◌}
use lib.ListN.{length}
use Rattle.journal.specs.Cursor.{walk_from}
use Rattle.device.proofs.CutLaws.{cuts_on}
use Rattle.device.proofs.job.cuts_from.Given as goal

abbrev pub invariant-loop-place : goal.invariant-loop-place
invariant-loop-place l = (l.at.end ≤ length l.job) × (cuts_on l.way true (walk_from l.job l.initial.at) ≡ cuts_on l.way l.every (walk_from l.job l.at))

abbrev pub decreases-loop-place : goal.decreases-loop-place
decreases-loop-place l = l.at.left
