-- `start` meets its contract: nothing laid over zeros is zeros.
use Rattle.line.specs.Answer.{overlay}
use Rattle.framer.specs.State.{blank}
use mathlib.Core.Path.{refl}
use Rattle.framer.proofs.start.Goals as goal

pub returns : goal.returns
unfolding overlay blank
returns c = refl
