-- `tyntolai_write_segments` meets its contract: a number that is no way is refused, else it is the writer's answer, in numbers.
use mathlib.Core.Path.{refl}
use Rattle.line.proofs.OverlayLaws.{wrote-refused}
use Rattle.abi.specs.Settings.{of_way}
use Rattle.abi.proofs.AnswerLaws.{numbered, unnumbered, puts}
use Rattle.abi.proofs.text.tyntolai_write_segments.Goals as goal

pub returns-in-Ok : goal.returns-in-Ok
unfolding of_way
returns-in-Ok c =
    let (range, is) = numbered _ 9 _ _ c.in-Ok.ensures in
    rw range (puts (rw is at c.write_segments.ensures) c.from.ensures)

pub returns-in-Err : goal.returns-in-Err
unfolding of_way
returns-in-Err c =
    let (out, nine) = unnumbered _ 9 _ _ c.in-Err.ensures in
    rw (out, ← nine) (puts (wrote-refused _ _ refl) c.from-in-Err.ensures)
