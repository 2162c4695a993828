-- `find` meets its contract: what is sought by the test for one byte is the place of that byte.
use mathlib.Core.Path.{ap, ◌∙◌}
use Prim.Native.Nat.{◌+◌}
use lib.ListN.{drop}
use Rattle.line.proofs.FindLaws.{before_first-is}
use Rattle.line.proofs.memory.find.Goals as goal

pub returns : goal.returns
returns c = c.seek.ensures ∙ ap (λ n. c.args.from + n) (before_first-is c.args.byte (drop c.args.from c.args.bytes.now))
