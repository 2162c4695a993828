-- `enter_pager` meets its contract: a text that is no pager ID changes nothing; a pager ID is copied over zeros.
use mathlib.Core.Bool.{true}
use mathlib.Core.Path.{◌≡◌, refl, sym, ◌∙◌}
use mathlib.Core.List.{◌++◌}
use lib.ListN.{length, drop}
use Rattle.line.specs.Answer.{overlay}
use Rattle.admission.specs.Content.{is_pager_id}
use Rattle.snpp.specs.State.{no_digits}
use Rattle.snpp.proofs.reaction.enter_pager.Goals as goal

pub returns : goal.returns
unfolding no_digits
returns c =
    let id : is_pager_id c.args.text.now ≡ true = sym c.is_pager_id.ensures ∙ c.if-not-is_pager_id.false in
    let text = c.args.text.now in
    let laid : c.copy_from_slice.new.self ++ drop (length text) no_digits ≡ overlay text no_digits = unfold overlay in rw c.copy_from_slice.ensures.after refl in
    c.stay-2.ensures ∙ rw (id, laid)
