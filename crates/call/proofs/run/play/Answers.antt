use mathlib.Core.Path.{refl, ◌∙◌}
use mathlib.Core.List.{[]}
use native.Mathlib.Omega.{arith}
use borrow.Author.Rules.{rules}
use Rattle.line.proofs.AllLaws.{all-bytes}
use Rattle.call.proofs.LoopLaws.{going-begins, going-ends, going_less, going_on, sound-few}
use Rattle.call.proofs.run.play.Goals as goal

pub loop-ends-init : goal.loop-ends-init
loop-ends-init c =
    let p = c.requires in
    let bytes = all-bytes c.args.journal.now (search rules) in
    (refl, refl, refl, refl, bytes, going-begins _ _ p bytes)

pub overflow_add-transmissions : goal.overflow_add-transmissions
overflow_add-transmissions c = omega (arith, c.loop-ends.invariant.5.bounded, sound-few [] c.requires.sound)

pub loop-ends-smaller : goal.loop-ends-smaller
loop-ends-smaller c = going_less _ _ c.loop-ends.invariant.5 (omega (arith, c.loop-ends-test.true)) c.fault_at-fault.ensures c.exchange-ends.ensures

pub loop-ends-preserved : goal.loop-ends-preserved
loop-ends-preserved c =
    let l = c.loop-ends in
    let next = going_on _ _ l.invariant.5 (omega (arith, c.loop-ends-test.true)) c.fault_at-fault.ensures c.exchange-ends.ensures in
    (c.journal-1.given ∙ l.invariant.0, c.pending-1.given ∙ l.invariant.1, c.memory-1.given ∙ l.invariant.2, c.verdicts-1.given ∙ l.invariant.3, all-bytes _ c.slice_known-in-loop-ends-1.given, next)

pub returns : goal.returns
returns c =
    let l = c.loop-ends in
    going-ends _ _ l.invariant.5 (omega (arith, c.loop-ends-test.false)) l.invariant.4 c.settle.ensures
