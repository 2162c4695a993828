-- At each turn what is kept, what was written and what waits, and the rest of the piece, decide. What is kept and what waits lie within their memory.
-- The measure is the rest of the piece: a turn takes at least one byte of it.
use Rattle.std.proofs.Common.{◌≡◌, ◌-◌, ◌≤◌, List, [], ℕ, length, take, drop}
use Rattle.blocks.specs.Lines.{taken}
use Rattle.blocks.proofs.LineLaws.{state}
use Rattle.blocks.proofs.take.Given as goal

abbrev pub invariant-loop-at : goal.invariant-loop-at
invariant-loop-at g l =
    (l.kept ≤ length l.line) × (l.waiting ≤ length l.out) × (written : List ℕ) ×
    (taken (length l.initial.out) (state (take l.initial.kept l.initial.line) [] (take l.initial.waiting l.initial.out)) l.piece ≡ taken (length l.initial.out) (state (take l.kept l.line) written (take l.waiting l.out)) (drop l.at l.piece))

abbrev pub decreases-loop-at : goal.decreases-loop-at
decreases-loop-at g l = length l.piece - l.at
