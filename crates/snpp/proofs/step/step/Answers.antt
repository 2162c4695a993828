-- `step` meets its contract: a refusal of the tests stands, and where they pass the session reacts and answers.
use mathlib.Core.Path.{◌≡◌, refl, sym, ap, ◌∙◌}
use lib.ListN.{length}
use Rattle.line.proofs.OutcomeLaws.{counted-made, map-refused}
use Rattle.line.specs.Answer.{outcome_of}
use Rattle.snpp.proofs.StepLaws.{Passes, tested-passes, stepped-refused, stepped-done, steps-refused, steps-done}
use borrow.Author.Rules.{rules}
use Rattle.snpp.proofs.step.step.Goals as goal
use Rattle.snpp.proofs.step.step.Goals.{In_default}

-- what passed the tests
passes : (c : In_default) → let a = c.args in Passes a.state a.settings a.pagers.now a.journal.now a.length (length a.line.now) (length a.out.now)
passes c = (tested-passes _ _ _ _ _ _ _ _ (counted-made _ _ (sym c.test-tested.ensures ∙ ap outcome_of c.in_default.is)).0).0

pub returns-in-Err : goal.returns-in-Err
returns-in-Err c =
    let a = c.args in
    let no = map-refused _ _ _ (sym c.test-tested.ensures ∙ ap outcome_of c.in-Err.is) in
    steps-refused _ a.state a.length _ a.journal.now a.out.now (stepped-refused _ a.settings a.pagers.now a.journal.now a.length a.line.now _ _ no) refl

pub react-reacted-requires : goal.react-reacted-requires
react-reacted-requires c =
    let eight : length c.args.state.pager ≡ 8 = search rules in
    let long : length c.args.state.message ≡ 2043 = search rules in
    let p = passes (goal.at.react-reacted-requires c).In_default in
    (record { longest = p.longest; range = p.range; digits = eight; sized = long; journal = p.journal }, p.short)

pub put_answer-requires : goal.put_answer-requires
put_answer-requires c = (passes (goal.at.put_answer-requires c).In_default).roomy

pub returns : goal.returns
returns c =
    let a = c.args in
    let p = passes (goal.at.returns c).In_default in
    steps-done (stepped-done _ a.settings a.pagers.now a.state.message a.journal.now a.length a.line.now _ p.tests) c.react-reacted.ensures c.put_answer.ensures
