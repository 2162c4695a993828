use Prim.Native.Nat.{◌-◌, ◌≤◌}
use lib.ListN.{get_or}
use Rattle.line.proofs.AllLaws.{all-at}
use Rattle.line.specs.Character.{digit}
use Rattle.admission.proofs.ContentLaws.{digit-range, number-below, number_more, number-ended}
use borrow.Author.Rules.{rules}
use native.Mathlib.Omega.{arith}
use Rattle.admission.proofs.number.Goals as goal

pub overflow_sub-c : goal.overflow_sub-c
overflow_sub-c c =
    let digit-here : (let d = get_or c.args.digits.now c.loop-c.c-index 0 in (0x30 ≤ d) × (d ≤ 0x39)) = digit-range _ (all-at digit _ _ c.requires.1 c.loop-c-test.true) in
    digit-here.0

pub loop-c-preserved : goal.loop-c-preserved
loop-c-preserved c =
    let digit-here : (let d = get_or c.args.digits.now c.loop-c.c-index 0 in (0x30 ≤ d) × (d ≤ 0x39)) = digit-range _ (all-at digit _ _ c.requires.1 c.loop-c-test.true) in
    let l = c.loop-c in
    let ds = c.args.digits.now in
    let more = number-below l.n (get_or ds l.c-index 0 - 0x30) l.c-index l.invariant.1 (omega (arith, digit-here)) in
    (search rules, rw c.from.ensures more, rw c.from.ensures (number_more ds l.c-index l.n l.invariant.2 c.loop-c-test.true))

pub returns : goal.returns
returns c =
    let l = c.loop-c in
    number-ended _ l.c-index l.n l.invariant.2 c.loop-c-test.false
