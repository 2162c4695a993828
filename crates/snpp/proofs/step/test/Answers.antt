-- `test` meets its contract: the tests are made in the definition's order, and each return is what they leave.
use mathlib.Core.Bool.{true, ◌&&◌}
use mathlib.Core.Path.{◌≡◌, sym, ap, ◌∙◌}
use lib.ListN.{length}
use Rattle.line.proofs.OutcomeLaws.{counted-made, map-refused, handed-refusal}
use Rattle.line.specs.Answer.{map_done}
use Rattle.central.specs.Step.{pagers_in_range}
use Rattle.snpp.proofs.StepLaws.{tested-range, tested-short, tested_unread, tested-long, tested-done}
use Rattle.snpp.specs.Inner.{state_of}
use Rattle.snpp.specs.State.{in_range}
use Rattle.snpp.specs.Step.{settings_in_range}
use Rattle.snpp.proofs.step.test.Goals as goal
use Rattle.snpp.proofs.step.test.Goals.{After-in_range, Else-not-settings_in_range-pagers_in_range}

-- what the first tests found
found : (c : After-in_range) →
    let a = c.args in
    (c.settings_in_range.result && c.pagers_in_range.result && c.in_range.result) ≡ (settings_in_range a.setup.settings && pagers_in_range a.setup.pagers.now && in_range (state_of a.control a.message.now))
found c = λ i. c.settings_in_range.ensures i && c.pagers_in_range.ensures i && c.in_range.ensures i

-- all is in range
inside : (c : Else-not-settings_in_range-pagers_in_range) → let a = c.args in settings_in_range a.setup.settings && pagers_in_range a.setup.pagers.now && in_range (state_of a.control a.message.now) ≡ true
inside c = sym (found (goal.at.Else-not-settings_in_range-pagers_in_range c).After-in_range) ∙ c.if-not-settings_in_range-pagers_in_range.false

pub returns-then-not-settings_in_range-pagers_in_range : goal.returns-then-not-settings_in_range-pagers_in_range
returns-then-not-settings_in_range-pagers_in_range c =
    let a = c.args in
    let wrong = sym (found (goal.at.returns-then-not-settings_in_range-pagers_in_range c).After-in_range) ∙ c.if-not-settings_in_range-pagers_in_range.true in
    rw (tested-range _ a.setup.settings a.setup.pagers.now a.journal.now a.length a.size a.room wrong)

pub returns-then-room-lt-ANSWER : goal.returns-then-room-lt-ANSWER
returns-then-room-lt-ANSWER c =
    let a = c.args in
    let right = inside (goal.at.returns-then-room-lt-ANSWER c).Else-not-settings_in_range-pagers_in_range in
    rw (tested-short _ a.setup.settings a.setup.pagers.now a.journal.now a.length a.size a.room right c.if-room-lt-ANSWER.true)

pub returns-in_err-count : goal.returns-in_err-count
returns-in_err-count c =
    let a = c.args in
    let right = inside (goal.at.returns-in_err-count c).Else-not-settings_in_range-pagers_in_range in
    let no = map-refused length _ _ (sym c.in_err-count.ensures) in
    handed-refusal _ _ c.from_residual.ensures.1 ∙ sym (rw (tested_unread _ a.setup.settings a.setup.pagers.now a.journal.now a.length a.size a.room right c.if-room-lt-ANSWER.false _ no))

pub returns-then-size-gt-LINE : goal.returns-then-size-gt-LINE
returns-then-size-gt-LINE c =
    let a = c.args in
    let right = inside (goal.at.returns-then-size-gt-LINE c).Else-not-settings_in_range-pagers_in_range in
    let (read, _) = counted-made _ _ (sym c.in_ok-count.ensures) in
    rw (tested-long _ a.setup.settings a.setup.pagers.now a.journal.now a.length a.size a.room right c.if-room-lt-ANSWER.false _ read c.if-size-gt-LINE.true)

pub returns : goal.returns
returns c =
    let a = c.args in
    let right = inside (goal.at.returns c).Else-not-settings_in_range-pagers_in_range in
    let (read, _) = counted-made _ _ (sym c.in_ok-count.ensures) in
    rw (tested-done _ a.setup.settings a.setup.pagers.now a.journal.now a.length a.size a.room right c.if-room-lt-ANSWER.false _ read c.if-size-gt-LINE.false)
    (c.in_ok-count.ensures ∙ ap (map_done length) read)
