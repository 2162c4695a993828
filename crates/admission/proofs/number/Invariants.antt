-- `number` meets its contract: the digits that the loop has still to read go on from the number so far, which has as many digits as were read.
use mathlib.Core.Path.{◌≡◌}
use Prim.Native.Nat.{◌^◌, ◌≤◌, ◌<◌}
use lib.ListN.{length, drop}
use Rattle.admission.specs.Content.{number_from}
use Rattle.admission.proofs.number.Given as goal

abbrev pub invariant-loop-c : goal.invariant-loop-c
invariant-loop-c l = (l.c-index ≤ length l.digits) × (l.n < 10 ^ l.c-index) × (number_from 0 l.digits ≡ number_from l.n (drop l.c-index l.digits))
