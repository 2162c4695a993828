-- `accepts` meets its contract: ACK and CR are met, and what follows the lines from that CR on closes the acceptance.
use mathlib.Core.List.{[], ◌∷◌}
use mathlib.Core.Path.{sym, ◌∙◌}
use lib.ListN.{drop}
use Rattle.line.specs.Character.{ACK, CR}
use Rattle.reply.specs.Reading.{accepts}
use Rattle.reply.proofs.TextLaws.{starts-begins, rest_of}
use Rattle.reply.proofs.accepts.Goals as goal

pub returns-then-not-starts_with : goal.returns-then-not-starts_with
unfolding accepts
returns-then-not-starts_with c =
    let other = sym (starts-begins (ACK ∷ CR ∷ []) c.args.text.now) ∙ sym c.starts_with.ensures.value ∙ c.if-not-starts_with.true in
    rw other

pub returns : goal.returns
unfolding accepts
returns c =
    let met = sym (starts-begins (ACK ∷ CR ∷ []) c.args.text.now) ∙ sym c.starts_with.ensures.value ∙ c.if-not-starts_with.false in
    let text = c.args.text.now in
    let behind = rw (rest_of text 1) at c.lines_end.ensures.1 in
    rw (met, ← behind) (rw (rest_of text 1, rest_of (drop 1 text) c.lines_end.result) at c.closes.ensures)
