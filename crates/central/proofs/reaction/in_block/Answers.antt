-- `in_block` meets its contract: each return is what the stage does with what the tests before it leave.
use mathlib.Core.Bool.{true, false}
use mathlib.Core.List.{[], ◌∷◌}
use mathlib.Core.Path.{◌≡◌, sym, ◌∙◌}
use Prim.Native.Nat.{◌≤◌}
use native.Mathlib.Omega.{arith}
use borrow.Author.Rules.{rules}
use lib.Dec.{eqb}
use lib.ListN.{length}
use Rattle.line.proofs.AllLaws.{all-bytes}
use Rattle.line.proofs.OutcomeLaws.{map-refused}
use Rattle.line.specs.Answer.{refusal_number}
use Rattle.line.specs.Character.{CR, EOT}
use Rattle.line.specs.Test.{same}
use Rattle.block.specs.Block.{inside, right, read_block}
use Rattle.central.proofs.ReactedLaws.{does_stores}
use Rattle.central.proofs.TextLaws.{block-heard}
use Rattle.central.specs.Hearing.{block, heard_block, recognized}
use Rattle.central.specs.Reaction.{at, fails, hangUp, reacts, rs}
use Rattle.central.specs.Step.{rules_of}
use Rattle.central.specs.declared.state.Stage.TheVariants.{Block, Closed}
use Rattle.central.proofs.reaction.in_block.Goals as goal
use Rattle.central.proofs.reaction.in_block.Goals.{Start, Else-is_same, In-Ok}

-- the pending information lies in its array
lies : (c : Start) → c.args.control.length ≤ length c.args.pending.now
lies c = let p = c.requires in omega (arith, p)

-- the text is not EOT CR
other : (c : Else-is_same) → same c.args.text.now (EOT ∷ CR ∷ []) ≡ false
other c = sym c.is_same.ensures ∙ c.if-is_same.false

-- it is a block: its information is right, and it is heard so
found : (c : In-Ok) →
    let t = c.args.text.now in
    let e = c.in-Ok.ending in
    (right (inside t) e ≡ true) × (heard_block (read_block t) ≡ block (record { info = inside t; ending = e }))
found c = block-heard _ _ (rw c.in-Ok.is at c.read.ensures)

pub returns-then-is_same : goal.returns-then-is_same
unfolding reacts recognized
returns-then-is_same c =
    let a = c.args in
    rw (sym c.is_same.ensures ∙ c.if-is_same.true)
    (does_stores a.control a.journal.now (all-bytes a.journal.now (search rules)) c.requires.journal (λ x. record { next = at Closed [] x.journal; answer = hangUp }) a.pending.now (lies (goal.at.returns-then-is_same c).Start) c.enter.ensures)

pub take_block-requires : goal.take_block-requires
take_block-requires c = (c.requires, rw c.inside.ensures.holds (found (goal.at.take_block-requires c).In-Ok).0)

pub returns-in-Err-Information : goal.returns-in-Err-Information
unfolding reacts recognized
returns-in-Err-Information c =
    let a = c.args in
    let here = goal.at.returns-in-Err-Information c in
    let none = map-refused _ _ _ (sym (rw c.in-Err-Information.is at c.read.ensures)) in
    rw (other here.Else-is_same, none, c.in-Err-Information.field-0-is)
    (does_stores a.control a.journal.now (all-bytes a.journal.now (search rules)) c.requires.journal (λ x. record { next = at Block [] x.journal; answer = rs }) a.pending.now (lies here.Start) c.enter-in-Err-Information.ensures)

pub returns-in-Ok : goal.returns-in-Ok
unfolding reacts recognized
returns-in-Ok c =
    let here = goal.at.returns-in-Ok c in
    rw (other here.Else-is_same, (found here.In-Ok).1, ← c.inside.ensures.holds) c.take_block.ensures

pub returns-in-Err : goal.returns-in-Err
unfolding reacts recognized
returns-in-Err c =
    let a = c.args in
    let here = goal.at.returns-in-Err c in
    let none = map-refused _ _ _ (sym (rw c.in-Err.is at c.read.ensures)) in
    let another : eqb (refusal_number c.in-Err.field-0) 6 ≡ false = search rules in
    rw (other here.Else-is_same, none, another)
    (does_stores a.control a.journal.now (all-bytes a.journal.now (search rules)) c.requires.journal (fails (rules_of a.setup.settings a.setup.pagers.now)) a.pending.now (lies here.Start) (c.fail.ensures a.setup.pagers.now))
