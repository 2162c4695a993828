use mathlib.Core.Path.{sym, ◌∙◌}
use Rattle.line.proofs.FirstLaws.{first-here, first-further, first-none}
use native.Mathlib.Omega.{arith}
use Rattle.line.proofs.test.seek.Goals as goal

pub returns-then-is_passed : goal.returns-then-is_passed
returns-then-is_passed g c =
    let a = c.args in
    omega (arith, first-here (g.T.Test.passes a.test) a.bytes.now c.loop-i.i (sym c.is_passed.ensures ∙ c.if-is_passed.true) c.loop-i-test.true)

pub loop-i-preserved : goal.loop-i-preserved
loop-i-preserved g c =
    let a = c.args in
    let l = c.loop-i in
    (omega arith, omega arith, l.invariant.2 ∙ first-further (g.T.Test.passes a.test) a.bytes.now l.i (sym c.is_passed.ensures ∙ c.if-is_passed.false) c.loop-i-test.true)

pub returns : goal.returns
returns g c =
    let a = c.args in
    omega (arith, first-none (g.T.Test.passes a.test) a.bytes.now c.loop-i.i c.loop-i-test.false)
