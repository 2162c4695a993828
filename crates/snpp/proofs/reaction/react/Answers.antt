-- `react` meets its contract: after QUIT nothing is done; else each command has its function.
use Rattle.std.specs.Prelude.{Option, Some}
use mathlib.Core.Bool.{true, false}
use mathlib.Core.Path.{◌≡◌, refl, sym, ap, ◌∙◌}
use native.Mathlib.Omega.{arith}
use Rattle.line.proofs.AllLaws.{all-bytes}
use Rattle.line.specs.Character.{byte}
use Rattle.line.specs.Test.{all}
use Rattle.snpp.proofs.CommandLaws.{text-behind}
use Rattle.snpp.proofs.ReactionLaws.{does_nothing, does_unknown, does_pager, does_message, does_reset, does_quit}
use Rattle.snpp.proofs.StageLaws.{same_closed}
use Rattle.snpp.specs.Command.{Command}
use Rattle.snpp.specs.Inner.{command_of}
use Rattle.snpp.specs.State.{is_closed}
use Rattle.snpp.specs.declared.command.Command as Word
use borrow.Author.Rules.{rules}
use Rattle.snpp.proofs.reaction.react.Goals as goal
use Rattle.snpp.proofs.reaction.react.Goals.{After-eq, Else-eq}

-- the buffer's bytes are bytes
bytes : (c : After-eq) → all byte c.args.journal.now ≡ true
bytes c = all-bytes _ (search rules)

-- the session goes on
going : (c : Else-eq) → is_closed c.args.control.stage ≡ false
going c = sym (c.eq.ensures ∙ same_closed c.args.control.stage) ∙ c.if-eq.false

-- the command that was recognized
heard : {o : Option Command} {w v : Word.Command} → o ≡ Some (command_of w) → w ≡ v → o ≡ Some (command_of v)
heard e f = e ∙ ap (λ w. Some (command_of w)) f

pub returns-then-eq : goal.returns-then-eq
returns-then-eq c =
    let at = goal.at.returns-then-eq c in
    let over = sym (c.eq.ensures ∙ same_closed c.args.control.stage) ∙ c.if-eq.true in
    rw c.stay.ensures (does_nothing _ c.args.setup.pagers.now _ _ _ _ (bytes at.After-eq) c.requires.0 over _)

pub enter_message-requires : goal.enter_message-requires
enter_message-requires c =
    omega (arith, c.requires.1, c.requires.0.sized, text-behind _ _ _ (heard c.in-Some-Message.ensures c.in-Some-Message.field-0-is) refl)

pub returns-in-Some-Page : goal.returns-in-Some-Page
returns-in-Some-Page c =
    let at = goal.at.returns-in-Some-Page c in
    rw (heard c.in-Some-Page.ensures c.in-Some-Page.field-0-is, c.enter_pager.ensures)
    (does_pager _ c.args.setup.pagers.now _ _ _ _ (bytes at.After-eq) c.requires.0 (going at.Else-eq) c.in-Some-Page.text.now)

pub returns-in-Some-Message : goal.returns-in-Some-Message
returns-in-Some-Message c =
    let at = goal.at.returns-in-Some-Message c in
    rw (heard c.in-Some-Message.ensures c.in-Some-Message.field-0-is)
    (does_message _ c.args.setup.pagers.now _ _ _ _ (bytes at.After-eq) c.requires.0 (going at.Else-eq) c.in-Some-Message.text.now c.enter_message.ensures)

pub returns-in-Some-Send : goal.returns-in-Some-Send
returns-in-Some-Send c = rw (heard c.in-Some-Send.ensures c.in-Some-Send.field-0-is) c.send_page.ensures

pub returns-in-Some-Reset : goal.returns-in-Some-Reset
returns-in-Some-Reset c =
    let at = goal.at.returns-in-Some-Reset c in
    let (forgot, cleared) = c.forget.ensures in
    rw (heard c.in-Some-Reset.ensures c.in-Some-Reset.field-0-is, forgot, cleared)
    (does_reset _ c.args.setup.pagers.now _ _ _ _ (bytes at.After-eq) c.requires.0 (going at.Else-eq))

pub returns-in-Some-Quit : goal.returns-in-Some-Quit
returns-in-Some-Quit c =
    let at = goal.at.returns-in-Some-Quit c in
    let (forgot, cleared) = c.forget-in-Some-Quit.ensures in
    rw (heard c.in-Some-Quit.ensures c.in-Some-Quit.field-0-is, forgot, cleared)
    (does_quit _ c.args.setup.pagers.now _ _ _ _ (bytes at.After-eq) c.requires.0 (going at.Else-eq))

pub returns-in-None : goal.returns-in-None
returns-in-None c =
    let at = goal.at.returns-in-None c in
    rw (c.in-None.ensures, c.stay-in-None.ensures)
    (does_unknown _ c.args.setup.pagers.now _ _ _ _ (bytes at.After-eq) c.requires.0 (going at.Else-eq))
