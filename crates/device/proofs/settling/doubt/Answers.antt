use mathlib.Core.List.{map}
use mathlib.Core.Path.{refl, sym, ap, ◌∙◌}
use native.Mathlib.Omega.{arith}
use lib.ListN.{length-map, length-set}
use Rattle.line.proofs.OverlayLaws.{overlay-none, overlay-whole, laid_ahead, laid_next, laid-whole}
use Rattle.device.specs.Settling.{doubted_number}
use borrow.Author.Rules.{rules}
use Rattle.device.proofs.settling.doubt.Goals as goal

pub loop-v-init : goal.loop-v-init
loop-v-init c = (search rules, refl, overlay-none _)

pub loop-v-preserved : goal.loop-v-preserved
loop-v-preserved c =
    let xs = c.args.verdicts.now in
    let l = c.loop-v in
    let first = c.doubted.ensures ∙ ap doubted_number (laid_ahead doubted_number xs xs l.v-index l.verdicts l.invariant.2 l.invariant.0) in
    (search rules, simp length-set l.invariant.1, laid_next doubted_number xs xs _ _ l.invariant.2 _ first (omega arith) (omega arith))

pub returns : goal.returns
returns c =
    let xs = c.args.verdicts.now in
    let l = c.loop-v in
    laid-whole doubted_number xs xs l.v-index l.verdicts l.invariant.2 (omega arith) ∙ sym (overlay-whole (map doubted_number xs) xs (length-map xs doubted_number))
