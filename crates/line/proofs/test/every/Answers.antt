use mathlib.Core.Path.{◌∙◌}
use Rattle.line.proofs.AllLaws.{all_folded, all-ended_folded}
use borrow.Author.Rules.{rules}
use native.Mathlib.Omega.{arith}
use Rattle.line.proofs.test.every.Goals as goal

pub loop-byte-preserved : goal.loop-byte-preserved
loop-byte-preserved g c =
    let l = c.loop-byte in
    (search rules, all_folded (g.T.Test.passes c.args.test) c.args.bytes.now l.byte-index l.every l.invariant.1 (omega arith) ∙ rw c.is_passed-every.ensures)

pub returns : goal.returns
returns g c = all-ended_folded (g.T.Test.passes c.args.test) _ _ _ c.loop-byte.invariant.1 c.loop-byte-test.false
