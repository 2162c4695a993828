-- `begin` meets its contract: the device's start is not refused, so both ends begin as a run does.
use mathlib.Core.Path.{◌∙◌}
use borrow.Author.Rules.{rules}
use Rattle.call.proofs.CallLaws.{started-steps, begins}
use Rattle.call.proofs.LoopLaws.{unsent-filled}
use Rattle.call.proofs.run.begin.Goals as goal

pub play-requires : goal.play-requires
play-requires c =
    let p = c.requires in
    let steps = started-steps p.sound c.start-started.ensures.steps (search rules) in
    begins p _ steps c.count.ensures c.start.ensures (c.fill.ensures.after (λ y e. e) ∙ rw c.from.ensures (unsent-filled _)) (search rules) (search rules)
