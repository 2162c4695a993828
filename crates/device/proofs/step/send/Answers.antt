-- `send` meets its contract: the string is put out, and counted in the answer.
use mathlib.Core.Path.{refl}
use Rattle.device.proofs.StepLaws.{steps-done}
use Rattle.device.proofs.step.send.Goals as goal

pub returns : goal.returns
returns c = λ job waits. steps-done _ _ _ _ _ refl (c.put_string-n.ensures job waits) (c.standing_after.ensures job) c.answer.ensures
