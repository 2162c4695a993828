use mathlib.Core.Path.{◌≡◌, sym, ◌∙◌}
use native.Mathlib.Omega.{arith}
use Rattle.segmentation.specs.Segmentation.{complete}
use Rattle.segmentation.proofs.WholeFieldsLaws.{complete-starts, complete-here, complete-further}
use borrow.Author.Rules.{rules}
use Rattle.segmentation.proofs.way.complete_fields.Goals as goal

pub loop-n-init : goal.loop-n-init
loop-n-init c = (search rules, complete-starts _ _ c.within-n.ensures)

pub returns-then-ends_in_cr : goal.returns-then-ends_in_cr
returns-then-ends_in_cr c =
    let ends = sym c.ends_in_cr.ensures ∙ c.if-ends_in_cr.true in
    sym (c.loop-n.invariant.1 ∙ complete-here _ _ c.loop-n-test.true ends)

pub loop-n-preserved : goal.loop-n-preserved
loop-n-preserved c =
    let l = c.loop-n in
    let open_end = sym c.ends_in_cr.ensures ∙ c.if-ends_in_cr.false in
    (omega (arith, l.invariant.0), l.invariant.1 ∙ complete-further _ _ c.loop-n-test.true open_end)

pub returns : goal.returns
unfolding complete
returns c =
    let l = c.loop-n in
    let none : l.n ≡ 0 = omega (arith, c.loop-n-test.false) in
    rw none at (sym l.invariant.1)
