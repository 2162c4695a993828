-- `closes` meets its contract: the code is met, and what follows it ends.
use mathlib.Core.Path.{sym, ◌∙◌}
use Rattle.reply.proofs.TextLaws.{stripped-begins}
use Rattle.reply.proofs.closes.Goals as goal

pub returns-in_default : goal.returns-in_default
returns-in_default c = rw (sym (stripped-begins c.args.code.now c.args.text.now) ∙ c.in_default.ensures.cases)

pub returns : goal.returns
returns c =
    let met = c.in-Some.ensures.cases in
    rw (sym (stripped-begins c.args.code.now c.args.text.now) ∙ met.0, ← met.1) c.ends.ensures
