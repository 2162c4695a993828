-- `enter_message` meets its contract: a wrong text and a second one change nothing; the first right one is copied.
use mathlib.Core.Bool.{true, false}
use mathlib.Core.Path.{◌≡◌, refl, sym, ◌∙◌}
use mathlib.Core.List.{◌++◌}
use lib.ListN.{length, drop}
use Rattle.line.specs.Answer.{overlay}
use Rattle.line.specs.Character.{printable}
use Rattle.line.specs.Test.{all}
use Rattle.snpp.proofs.StageLaws.{same_entered}
use Rattle.snpp.specs.Inner.{is_entered}
use Rattle.snpp.proofs.reaction.enter_message.Goals as goal

pub returns : goal.returns
returns c =
    let right : all printable c.args.text.now ≡ true = sym c.are.ensures ∙ c.if-not-are.false in
    let first : is_entered c.args.control.stage ≡ false = sym (c.eq.ensures ∙ same_entered c.args.control.stage) ∙ c.if-eq.false in
    let laid : c.copy_from_slice.new.self ++ drop (length c.args.text.now) c.args.message.now ≡ overlay c.args.text.now c.args.message.now =
    unfold overlay in rw c.copy_from_slice.ensures.after refl in
    record {
      reacted = c.stay-2.ensures ∙ rw (right, first);
      laid = rw (right, first) laid;
    }
