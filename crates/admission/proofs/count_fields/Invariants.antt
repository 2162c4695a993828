-- `count_fields` meets its contract: what is counted and what is still to count make the whole.
use mathlib.Core.Path.{◌≡◌}
use Prim.Native.Nat.{◌+◌, ◌≤◌}
use lib.ListN.{length, drop}
use Rattle.admission.specs.Content.{field_count}
use Rattle.admission.proofs.count_fields.Given as goal

abbrev pub invariant-loop-c : goal.invariant-loop-c
invariant-loop-c l = (l.n ≤ l.c-index) × (l.c-index ≤ length l.info) × (field_count l.info ≡ l.n + field_count (drop l.c-index l.info))
