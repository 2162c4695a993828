-- `read` meets its contract: what cannot be taken off the line is not recognized, and what was taken off it lies at the start of the memory.
use mathlib.Core.Path.{sym, ap, ◌∙◌}
use lib.Seq.{length-take-le}
use Rattle.reply.specs.Reading.{recognized_in, reply_read}
use Rattle.line.proofs.OverlayLaws.{refused_only, counted_start}
use Rattle.reply.proofs.read.Goals as goal

pub returns-in_default : goal.returns-in_default
unfolding reply_read
returns-in_default c = sym (ap recognized_in (refused_only _ _ c.in_default.is c.clear_parity.ensures))

pub slice_bounds-text-end : goal.slice_bounds-text-end
slice_bounds-text-end c = (counted_start _ _ c.in-Ok.is c.clear_parity.ensures).0

pub slice_bounds-read_text-end : goal.slice_bounds-read_text-end
slice_bounds-read_text-end c = sym (length-take-le _ _ (counted_start _ _ c.in-Ok.is c.clear_parity.ensures).0)

pub returns : goal.returns
unfolding reply_read
returns c =
    let taken-off = (counted_start _ _ c.in-Ok.is c.clear_parity.ensures).1 in
    c.read_text.ensures ∙ sym (ap recognized_in taken-off)
