use mathlib.Core.Path.{ap, ◌∙◌}
use native.Mathlib.Omega.{arith}
use Rattle.std.proofs.Common.{add-one}
use Rattle.journal.specs.Walk.{cursor_at}
use Rattle.journal.proofs.held.step_at.Goals as goal

pub loop-init : goal.loop-init
unfolding cursor_at
loop-init c = record {
  within = omega arith;
  lent = ap (λ j. j.now) c.new-cursor.ensures.0;
  stands = c.new-cursor.ensures.1;
}

pub loop-preserved : goal.loop-preserved
unfolding cursor_at
loop-preserved c = record {
  within = omega arith;
  lent = ap (λ j. j.now) c.next-cursor.ensures.0 ∙ c.loop.invariant.lent;
  stands = c.next-cursor.ensures.1 ∙ rw (c.loop.invariant.lent, c.loop.invariant.stands, add-one);
}
