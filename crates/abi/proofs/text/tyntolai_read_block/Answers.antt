-- `tyntolai_read_block` meets its contract: what is read has the information that lies inside, and what is refused is refused by its number.
use mathlib.Core.Path.{sym}
use Rattle.abi.proofs.AnswerLaws.{read-answers}
use Rattle.abi.proofs.text.tyntolai_read_block.Goals as goal

pub returns-in-Ok : goal.returns-in-Ok
returns-in-Ok c = read-answers _ _ (sym c.in-Ok.ensures) c.inside.ensures.holds
