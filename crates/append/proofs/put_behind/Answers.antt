-- `put_behind` meets its contract: the tests are those of `behind`, and the tail over the free part is all that is written.
use mathlib.Core.Bool.{false}
use mathlib.Core.Path.{◌≡◌}
use native.Mathlib.Omega.{arith}
use borrow.Author.Tests.{lt-leb, le-leb}
use Rattle.line.proofs.OverlayLaws.{wrote-refused}
use Rattle.line.specs.declared.answer.Refusal.TheVariants.{Length, Room}
use Rattle.append.specs.Append.{room_at}
use Rattle.append.proofs.TailLaws.{behind-wrote}
use Rattle.append.proofs.put_behind.Goals as goal

pub returns-then-n-lt1 : goal.returns-then-n-lt1
returns-then-n-lt1 c = wrote-refused Length _ (rw (lt-leb 1 _ c.if-n-lt1.true))

pub returns-then-n-gt-MOST_INFORMATION : goal.returns-then-n-gt-MOST_INFORMATION
returns-then-n-gt-MOST_INFORMATION c = wrote-refused Length _ (rw (le-leb 1 _ c.if-n-lt1.false, lt-leb _ 2000 c.if-n-gt-MOST_INFORMATION.true))

pub returns-then-not-count-end : goal.returns-then-not-count-end
returns-then-not-count-end c =
    let a = c.args in
    let full : room_at a.position a.info.now ≡ false = c.if-not-count-end.true in
    wrote-refused Room _ (rw (le-leb 1 _ c.if-n-lt1.false, le-leb _ 2000 c.if-n-gt-MOST_INFORMATION.false, full))

pub returns : goal.returns
returns c = behind-wrote _ _ _ _ (omega arith) c.if-n-lt1.false c.if-n-gt-MOST_INFORMATION.false c.if-not-count-end.false c.put_tail.ensures
