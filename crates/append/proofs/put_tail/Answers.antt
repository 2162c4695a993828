-- `put_tail` meets its contract: the information lies over the part, and each number right behind what lies there.
use mathlib.Core.List.{◌++◌}
use mathlib.Core.Path.{refl, ◌∙◌}
use Prim.Native.Nat.{◌+◌}
use borrow.Author.Tests.{le-ltb}
use lib.ListN.{length, length-append}
use Rattle.line.specs.Answer.{copied}
use Rattle.journal.specs.Encoding.{record_of, two_bytes}
use Rattle.append.proofs.TailLaws.{overlay-number}
use native.Mathlib.Omega.{arith}
use Rattle.append.proofs.put_tail.Goals as goal

pub returns : goal.returns
unfolding copied record_of
returns c =
    let a = c.args in
    let t = a.info.now in
    let m = a.part.now in
    let n = length t in
    let laid = rw (le-ltb (length m) n (omega arith)) at c.copy.ensures.leaves in
    let first = c.put_number.ensures ∙ overlay-number t m _ n n laid refl (omega arith) in
    let second = c.put_number-2.ensures ∙ overlay-number (t ++ two_bytes n) m _ (n + 2) a.count first (length-append t (two_bytes n)) (omega arith) in
    c.put_number-3.ensures ∙
    overlay-number (t ++ two_bytes n ++ two_bytes a.count) m _ (n + 4) a.size second (simp length-append (omega arith)) (omega arith)
