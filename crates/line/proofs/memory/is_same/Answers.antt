-- `is_same` meets its contract: slices are equal member by member.
use mathlib.Core.Path.{◌∙◌}
use Rattle.line.proofs.SameLaws.{same-pointwise}
use Rattle.line.proofs.memory.is_same.Goals as goal

pub returns : goal.returns
returns c = c.eq.ensures ∙ same-pointwise c.args.bytes.now c.args.other.now
