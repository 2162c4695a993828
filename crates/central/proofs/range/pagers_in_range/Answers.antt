use mathlib.Core.Bool.{Bool}
use mathlib.Core.Path.{◌∙◌}
use Prim.Native.Nat.{ℕ}
use native.Mathlib.Omega.{arith}
use borrow.Author.Rules.{rules}
use borrow.Author.Tests.{le-leb}
use lib.Dec.{ltb}
use Rattle.line.proofs.AllLaws.{all_folded, all-ended_folded}
use Rattle.central.proofs.range.pagers_in_range.Goals as goal

-- a pager number
abbrev number : ℕ → Bool
number n = ltb n 100000000

pub loop-n-preserved : goal.loop-n-preserved
loop-n-preserved c = (search rules, all_folded number _ c.loop-n.n-index c.loop-n.every c.loop-n.invariant.1 (omega arith) ∙ rw c.is_number-every.ensures)

pub returns : goal.returns
returns c = rw (le-leb _ 1000 c.if-pagers-gt-MOST_PAGERS.false) (all-ended_folded number _ _ _ c.loop-n.invariant.1 c.loop-n-test.false)
