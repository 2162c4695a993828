use mathlib.Core.Path.{refl}
use borrow.Author.Tests.{ltb-true}
use lib.ListN.{length-set}
use Rattle.line.specs.Character.{seven}
use Rattle.line.specs.Parity.{with_parity}
use Rattle.line.proofs.AllLaws.{all-at}
use Rattle.line.proofs.OverlayLaws.{overlay-none, laid_next}
use borrow.Author.Rules.{rules}
use native.Mathlib.Omega.{arith}
use Rattle.line.proofs.parity.put_parity.Goals as goal

pub loop-i-init : goal.loop-i-init
loop-i-init c = (search rules, refl, overlay-none _)

pub with_parity-requires : goal.with_parity-requires
with_parity-requires c = ltb-true _ _ (all-at seven _ _ c.requires.0 c.loop-i-test.true)

pub loop-i-preserved : goal.loop-i-preserved
loop-i-preserved c =
    let a = c.args in
    let l = c.loop-i in
    (search rules, simp length-set l.invariant.1, laid_next with_parity a.text.now a.out.now _ _ l.invariant.2 _ c.with_parity.ensures (omega arith) (omega arith))
