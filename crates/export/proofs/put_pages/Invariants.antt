-- `put_pages` meets its contract: at each turn the rest of the records lies in the journal, two CRs show the fields of the next, and its lines have room.
use mathlib.Core.List.{List}
use Prim.Native.Nat.{ℕ, ◌-◌}
use Rattle.export.proofs.ExportLaws.{Putting}
use Rattle.export.proofs.put_pages.Given as goal

abbrev pub invariant-loop-at : goal.invariant-loop-at
invariant-loop-at l = (rest : List (List ℕ)) × Putting l.journal l.initial.out l.out l.end l.at l.n rest

abbrev pub decreases-loop-at : goal.decreases-loop-at
decreases-loop-at l = l.end - l.at
