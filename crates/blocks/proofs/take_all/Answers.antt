-- `take_all` meets its contract: the pieces that the turns have taken are as one text.
use Rattle.std.proofs.Common.{[], refl, rules}
use Rattle.blocks.specs.Lines.{taken}
use Rattle.blocks.proofs.LineLaws.{took_append}
use Rattle.blocks.proofs.take_all.Goals as goal

pub loop-init : goal.loop-init
unfolding taken
loop-init g c =
    ([], record { within = record { keeps = search rules; lines = c.requires.0; waits = search rules; prints = c.requires.1 }; written = []; right = refl })

pub loop-preserved : goal.loop-preserved
loop-preserved g c = (_, took_append c.loop.auto.out c.loop.invariant.1 c.in_ok-filled.ensures.ok)
