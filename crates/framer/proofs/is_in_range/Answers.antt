-- `is_in_range` meets its contract: 256 bytes and more cannot be held; else what is held and what stands behind it are tested.
use mathlib.Core.Path.{sym}
use Rattle.framer.specs.State.{in_range}
use Rattle.framer.proofs.StateLaws.{long-range}
use borrow.Author.Rules.{rules}
use Rattle.framer.proofs.is_in_range.Goals as goal

pub returns-then-state-ge-STRING : goal.returns-then-state-ge-STRING
returns-then-state-ge-STRING c = sym (long-range c.args.state.now c.if-state-ge-STRING.true (search rules))

pub returns : goal.returns
unfolding in_range
returns c = rw (c.is_unfinished.ensures, c.every.ensures, c.split_at.ensures.front, c.split_at.ensures.back)
