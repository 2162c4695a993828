-- `next_length` meets its contract: filled, it is a block's characters or what is left; with whole fields, what is complete, if anything is.
use mathlib.Core.Path.{◌∙◌}
use Rattle.segmentation.proofs.WholeFieldsLaws.{whole_turn}
use Rattle.segmentation.proofs.way.next_length.Goals as goal

pub returns-then-n-eq0 : goal.returns-then-n-eq0
returns-then-n-eq0 c = rw c.in-WholeFields.is (c.within-then-n-eq0.ensures ∙ (whole_turn c.args.rest.now _ c.complete_fields-n.ensures).0 c.if-n-eq0.true)

pub returns-else-n-eq0 : goal.returns-else-n-eq0
returns-else-n-eq0 c = rw c.in-WholeFields.is ((whole_turn c.args.rest.now _ c.complete_fields-n.ensures).1 c.if-n-eq0.false)
