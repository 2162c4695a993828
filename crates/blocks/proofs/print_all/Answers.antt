-- `print_all` meets its contract: the whole input is taken, and its last line is printed; what was written and what waits is by the laws of the lines what they print.
use Rattle.std.proofs.lemmas.Result.{IfOk-weaker}
use Rattle.blocks.proofs.LineLaws.{took_whole}
use Rattle.blocks.proofs.print_all.Goals as goal

pub returns-clause-ok : goal.returns-clause-ok
returns-clause-ok g c = IfOk-weaker c.finish.result _ _ (λ n laid. took_whole c.take_all.auto.out c.in_ok-filled.ensures.ok.1 laid) c.finish.ensures.ok
