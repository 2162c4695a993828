-- `finishes` meets its contract: nothing is left, or something does.
use Rattle.reply.proofs.TextLaws.{empty-same}
use Rattle.reply.proofs.finishes.Goals as goal

pub returns-then-is_empty : goal.returns-then-is_empty
returns-then-is_empty c = rw (empty-same c.args.text.now, ← c.is_empty.ensures, c.if-is_empty.true)

pub returns-else-is_empty : goal.returns-else-is_empty
returns-else-is_empty c = rw (empty-same c.args.text.now, ← c.is_empty.ensures, c.if-is_empty.false) c.ends.ensures
