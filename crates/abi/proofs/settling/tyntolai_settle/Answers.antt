-- `tyntolai_settle` meets its contract: a number that is no standing is refused, else the buffer is settled, and its length answered.
use mathlib.Core.Path.{refl}
use Rattle.line.proofs.OverlayLaws.{wrote-refused}
use Rattle.abi.specs.Settling.{settled_as}
use Rattle.abi.proofs.AnswerLaws.{numbered, unnumbered, puts, puts_whole}
use borrow.Author.Rules.{rules}
use Rattle.abi.proofs.settling.tyntolai_settle.Goals as goal

pub returns-in-Ok : goal.returns-in-Ok
unfolding settled_as
returns-in-Ok c =
    let (range, is) = numbered _ 9 _ _ c.in-Ok.ensures in
    rw range (puts_whole (rw is at c.settle.ensures) (search rules))

pub returns-in-Err : goal.returns-in-Err
unfolding settled_as
returns-in-Err c =
    let (out, nine) = unnumbered _ 9 _ _ c.in-Err.ensures in
    rw (out, ← nine) (puts (wrote-refused _ _ refl) c.from.ensures)
