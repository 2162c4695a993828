-- `is_unfinished` meets its contract: each return is the case of what can be held that the first byte and the length leave.
use mathlib.Core.Path.{◌≡◌, sym, ◌∙◌}
use Prim.Native.Nat.{◌-◌}
use lib.ListN.{length}
use Rattle.framer.proofs.HeldLaws.{held_none, held-eot, held-other, held-few, held-many}
use borrow.Author.Rules.{rules}
use native.Mathlib.Omega.{arith}
use Rattle.framer.proofs.is_unfinished.Goals as goal

pub returns-then-n-eq0 : goal.returns-then-n-eq0
returns-then-n-eq0 c = sym (held_none c.args.held.now c.if-n-eq0.true)

pub returns-then-first-eq-EOT : goal.returns-then-first-eq-EOT
returns-then-first-eq-EOT c = sym (held-eot c.args.held.now (search rules) c.if-first-eq-EOT.true)

pub returns-then-first-ne-STX : goal.returns-then-first-ne-STX
returns-then-first-ne-STX c = sym (held-other c.args.held.now (search rules) c.if-first-eq-EOT.false c.if-first-ne-STX.true)

pub returns-then-n-lt-TAIL : goal.returns-then-n-lt-TAIL
returns-then-n-lt-TAIL c = sym (held-few c.args.held.now (search rules) c.if-first-ne-STX.false c.if-n-lt-TAIL.true)

pub returns : goal.returns
returns c =
    let h = c.args.held.now in
    let tail : length h - 5 ≡ length h - 4 - 1 = omega arith in
    sym (held-many h (omega arith) c.if-first-ne-STX.false c.if-n-lt-TAIL.false ∙ rw (tail, ← c.every.ensures))
