-- `finish` meets its contract: a last line is printed where a character of it is kept, and else what waits stays as it is.
use Rattle.std.proofs.Common.{sym, arith}
use borrow.Author.Tests.{le-ltb}
use lib.Seq.{length-take-le}
use Rattle.line.proofs.OverlayLaws.{overlay-own}
use Rattle.blocks.proofs.finish.Goals as goal

pub returns-clause-ok : goal.returns-clause-ok
returns-clause-ok g c =
    let kept = length-take-le c.args.filled.kept c.args.line.now c.requires.keeps in
    rw (kept, le-ltb 0 c.args.filled.kept (omega arith)) (record { counts = sym (length-take-le _ _ c.requires.waits); leaves = overlay-own _ _ c.requires.waits })
