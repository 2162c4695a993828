use mathlib.Core.Path.{refl}
use lib.ListN.{length-set}
use Rattle.line.proofs.OverlayLaws.{overlay-none, laid_next}
use borrow.Author.Rules.{rules}
use native.Mathlib.Omega.{arith}
use Rattle.line.proofs.memory.put.Goals as goal

pub loop-i-init : goal.loop-i-init
loop-i-init c = (search rules, refl, overlay-none _)

pub loop-i-preserved : goal.loop-i-preserved
loop-i-preserved c =
    let a = c.args in
    let l = c.loop-i in
    (search rules, simp length-set l.invariant.1, laid_next (λ x. x) a.bytes.now a.out.now _ _ l.invariant.2 _ refl (omega arith) (omega arith))
