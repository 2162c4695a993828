-- `tyntolai_write_block` meets its contract: a character that is no ending is refused, else it is the writer's answer, in numbers.
use mathlib.Core.Path.{refl}
use Rattle.line.proofs.OverlayLaws.{wrote-refused}
use Rattle.line.specs.declared.answer.Refusal.TheVariants.{Range}
use Rattle.abi.proofs.AnswerLaws.{ended, unended, puts}
use Rattle.abi.proofs.text.tyntolai_write_block.Goals as goal

pub returns-in-Ok : goal.returns-in-Ok
returns-in-Ok c = rw (ended _ _ _ _ c.in-Ok.ensures) (puts c.write.ensures c.from.ensures)

pub returns-in-Err : goal.returns-in-Err
returns-in-Err c = rw (unended _ _ _ _ c.in-Err.ensures) (puts (wrote-refused Range _ refl) c.from-in-Err.ensures)
