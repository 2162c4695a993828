-- `forget` meets its contract: the message is cleared, and the control holds nothing.
use mathlib.Core.Path.{refl, ◌∙◌}
use Rattle.snpp.specs.State.{no_digits, no_text}
use Rattle.snpp.proofs.reaction.forget.Goals as goal

pub returns : goal.returns
unfolding no_digits no_text
returns c = (refl, c.fill.ensures.after (λ y e. e) ∙ rw c.requires)
