-- `in_idle` meets its contract: only CR is recognized.
use mathlib.Core.Path.{sym, ◌∙◌}
use Rattle.central.specs.Hearing.{recognized}
use Rattle.central.specs.Reaction.{reacts}
use Rattle.central.proofs.reaction.in_idle.Goals as goal

pub returns-then-is_same : goal.returns-then-is_same
unfolding reacts recognized
returns-then-is_same c = λ rules array ts h. rw (sym c.is_same.ensures ∙ c.if-is_same.true) (c.enter.ensures array ts h)

pub returns : goal.returns
unfolding reacts recognized
returns c = λ rules array ts h. rw (sym c.is_same.ensures ∙ c.if-is_same.false) (c.stay.ensures array ts h)
