-- `recognize` meets its contract: the word in capitals, and what stands behind it, decide as in the definition.
use mathlib.Core.Path.{◌≡◌, ap, ◌∙◌}
use Rattle.snpp.proofs.CommandLaws.{recognized-short, recognized_cut, nothing_bare, joined_none, spaced_text}
use Rattle.snpp.specs.Command.{recognized, command_with}
use Rattle.snpp.proofs.command.recognize.Goals as goal
use Rattle.snpp.proofs.command.recognize.Goals.{After-split_first}

-- the line by its word and the rest
cut : (c : After-split_first) → recognized c.args.line.now ≡ command_with c.make_ascii_uppercase.new.self c.in_ok-letters.rest.now
cut c =
    let (word, rest, _) = c.in_ok-letters.ensures.cases in
    rw c.make_ascii_uppercase.ensures.after (recognized_cut _ _ _ word rest)

pub returns-in_err-letters : goal.returns-in_err-letters
returns-in_err-letters c = recognized-short _ c.in_err-letters.ensures.cases ∙ rw c.from_residual.ensures

pub returns-in_default : goal.returns-in_default
returns-in_default c = cut (goal.at.returns-in_default c).After-split_first ∙ nothing_bare _ _ c.in_default.ensures.cases ∙ c.bare.ensures

pub returns-then-first-ne32 : goal.returns-then-first-ne32
returns-then-first-ne32 c =
    cut (goal.at.returns-then-first-ne32 c).After-split_first ∙ ap (command_with _) c.in-Some.ensures.cases.0 ∙ joined_none _ _ _ c.if-first-ne32.true

pub returns : goal.returns
returns c =
    cut (goal.at.returns c).After-split_first ∙ ap (command_with _) c.in-Some.ensures.cases.0 ∙ spaced_text _ _ _ c.if-first-ne32.false ∙ c.with_text.ensures
