-- The pieces that the turns have taken are as one text.
use Rattle.std.proofs.Common.{List, ℕ}
use Rattle.blocks.specs.Lines.{nothing, Took}
use Rattle.blocks.proofs.take_all.Given as goal

abbrev pub invariant-loop : goal.invariant-loop
invariant-loop g l = (text : List ℕ) × Took text l.initial.line l.initial.out l.line l.out nothing l.filled
