-- `logs_on` meets its contract: one test after the other, the first and the last character each by its place.
use mathlib.Core.Path.{◌≡◌, sym, ◌∙◌}
use Prim.Native.Nat.{◌-◌}
use borrow.Author.Tests.{le-leb, eq-eqb, ne_eqb}
use lib.ListN.{length}
use Rattle.line.specs.Character.{CR, ESC}
use Rattle.line.proofs.SameLaws.{same_first, same-last}
use native.Mathlib.Omega.{arith}
use Rattle.central.proofs.logon.logs_on.Goals as goal

pub returns-then-text-ne-ESC : goal.returns-then-text-ne-ESC
returns-then-text-ne-ESC c =
    let t = c.args.text.now in
    rw (le-leb 5 _ c.if-n-lt-FEWEST.false, le-leb _ 11 c.if-n-gt-MOST.false, same_first t ESC (omega arith), ne_eqb _ ESC c.if-text-ne-ESC.true)

pub returns : goal.returns
returns c =
    let t = c.args.text.now in
    let n : length t - 1 - 1 ≡ length t - 2 = omega arith in
    let word = rw n at (sym c.are.ensures ∙ c.if-not-are.false) in
    rw (le-leb 5 _ c.if-n-lt-FEWEST.false, le-leb _ 11 c.if-n-gt-MOST.false, same_first t ESC (omega arith), eq-eqb _ ESC c.if-text-ne-ESC.false, word, same-last t CR (omega arith))
