-- `has_content` meets its contract: each return is the rule that the tests before it leave, and the first field is what stands before the first CR.
use mathlib.Core.Bool.{and-false}
use mathlib.Core.Path.{sym, ap, ◌∙◌}
use native.Mathlib.Omega.{arith}
use borrow.Author.Tests.{lt-leb, le-leb, eq-eqb, ne_eqb}
use lib.ListN.{length}
use lib.Seq.{length-take-le}
use Rattle.admission.specs.Content.{content, field_count, pages}
use Rattle.admission.proofs.ContentLaws.{first_found}
use Rattle.admission.proofs.has_content.Goals as goal

pub returns-then-longest-info : goal.returns-then-longest-info
unfolding content
returns-then-longest-info c =
    let a = c.args in
    sym (rw (lt-leb (length a.info.now) a.longest (omega arith)))

pub returns-then-count_fields-ne2 : goal.returns-then-count_fields-ne2
unfolding content
returns-then-count_fields-ne2 c =
    let a = c.args in
    sym (rw (ne_eqb (field_count a.info.now) 2 (omega (arith, c.count_fields.ensures)), and-false))

pub slice_bounds-names_pager-end : goal.slice_bounds-names_pager-end
slice_bounds-names_pager-end c = sym (length-take-le _ _ (first_found _ _ c.find-end.ensures).0)

pub returns : goal.returns
unfolding content
returns c =
    let a = c.args in
    let t = a.info.now in
    let short = le-leb (length t) a.longest (omega (arith, c.if-longest-info.false)) in
    let two = eq-eqb (field_count t) 2 (omega (arith, c.if-count_fields-ne2.false, c.count_fields.ensures)) in
    let first = (first_found t _ c.find-end.ensures).1 in
    c.names_pager.ensures ∙ ap (pages a.pagers.now) first ∙ rw (short, two)
