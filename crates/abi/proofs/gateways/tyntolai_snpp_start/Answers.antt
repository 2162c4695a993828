-- `tyntolai_snpp_start` meets its contract: the arrays hold nothing.
use mathlib.Core.Path.{refl}
use Rattle.line.specs.Answer.{overlay}
use Rattle.snpp.specs.State.{no_digits, no_text}
use Rattle.abi.proofs.gateways.tyntolai_snpp_start.Goals as goal

pub returns : goal.returns
unfolding overlay no_digits no_text
returns c = refl
