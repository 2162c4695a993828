-- `requests` meets its contract: `ID=` is met, and behind it, or behind a space, the text is over.
use mathlib.Core.Path.{sym, ◌∙◌}
use lib.Seq.{drop-drop}
use Rattle.line.specs.Text.{bytes_of}
use Rattle.reply.specs.Reading.{requests}
use Rattle.reply.proofs.TextLaws.{stripped-begins, space-passed}
use Rattle.reply.proofs.requests.Goals as goal

pub returns-in_default : goal.returns-in_default
unfolding requests
returns-in_default c = rw (sym (stripped-begins (bytes_of "ID=") c.args.text.now) ∙ c.in_default.ensures.cases)

pub returns : goal.returns
unfolding requests
returns c =
    let text = c.args.text.now in
    let met = c.in-Some.ensures.cases in
    let left = rw (← c.unwrap_or.ensures, met.1, drop-drop 1 3 text) at (space-passed c.in-Some.rest c.strip_prefix-2.result c.strip_prefix-2.ensures.cases) in
    rw (sym (stripped-begins (bytes_of "ID=") text) ∙ met.0) (c.finishes.ensures ∙ left)
