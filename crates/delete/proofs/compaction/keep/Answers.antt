-- `keep` meets its contract: a record that already stands at the end of those kept is not moved.
use mathlib.Core.Path.{◌≡◌, refl, ◌∙◌}
use Rattle.delete.proofs.MoveLaws.{moved_nowhere, copied_down}
use Rattle.delete.proofs.compaction.keep.Goals as goal

pub returns-then-end-start : goal.returns-then-end-start
returns-then-end-start c =
    let a = c.args in
    let same : a.kept.end ≡ a.start = c.if-end-start.true in
    rw c.if-chosen.false (refl, moved_nowhere a.journal.now a.start a.size c.requires.1 ∙ rw same)

pub returns : goal.returns
returns c =
    let a = c.args in
    rw c.if-chosen.false (refl, c.copy_within.ensures.after ∙ copied_down a.journal.now a.kept.end a.start a.size c.requires.0 c.requires.1)
