-- `test_and_remove` meets its contract: a state out of range is refused, and in an open call nothing is allowed to be chosen.
use mathlib.Core.Path.{sym, ◌∙◌}
use Rattle.line.proofs.OverlayLaws.{wrote-refused}
use Rattle.line.specs.declared.answer.Refusal.TheVariants.{Range}
use Rattle.central.specs.Lent.{state_of}
use Rattle.delete.proofs.DeletionLaws.{out_of_range, in_range_lem}
use Rattle.delete.proofs.lent.test_and_remove.Goals as goal

pub returns-then-not-rests_in_range : goal.returns-then-not-rests_in_range
returns-then-not-rests_in_range c array =
    let other = sym c.rests_in_range.ensures ∙ c.if-not-rests_in_range.true in
    wrote-refused Range _ (rw (out_of_range c.args.choice (state_of c.args.control array) c.args.journal.now other))

pub returns : goal.returns
returns c array =
    let a = c.args in
    let rests = sym c.rests_in_range.ensures ∙ c.if-not-rests_in_range.false in
    rw (← in_range_lem a.choice (state_of a.control array) a.journal.now rests) (rw c.allow-allowed.ensures at c.remove.ensures)
