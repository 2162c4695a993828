-- `write` meets its contract: each return is the case of `write_block` that the tests before it leave; what is right has 7-bit values alone.
use Rattle.std.specs.Prelude.{ℕ, List, ◌+◌, ◌≤◌, false, if◌then◌else◌}
use mathlib.Core.Path.{◌≡◌, sym, ◌∙◌}
use borrow.Author.Tests.{lt-ltb, le-ltb}
use lib.ListN.{length}
use Rattle.line.specs.Answer.{refused}
use Rattle.line.proofs.OutcomeLaws.{choice-not}
use Rattle.line.proofs.OverlayLaws.{wrote-refused, wrote-done}
use Rattle.block.specs.Block.{block_of, right, write_block}
use Rattle.block.specs.declared.frame.Ending.{Ending}
use Rattle.line.specs.Character.{seven}
use Rattle.line.specs.Test.{all}
use Rattle.block.proofs.FrameLaws.{block-length, write_right}
use Rattle.block.proofs.frame.write.Goals as goal

-- what is not right is refused by its characters
wrong : (info : List ℕ) (ending : Ending) (room : ℕ) → length info + 6 ≤ room → length info ≤ 250 → right info ending ≡ false →
    write_block info ending room ≡ (if all seven info then refused 6 else refused 3)
unfolding write_block
wrong info ending room fits short bad =
    rw (le-ltb _ _ fits, le-ltb 250 _ short, bad) (choice-not (all seven info) (refused 3) (refused 6))

pub returns-then-out-n : goal.returns-then-out-n
unfolding write_block
returns-then-out-n c = wrote-refused _ _ (rw (lt-ltb _ _ c.if-out-n.true))

pub returns-then-n-gt-INFORMATION : goal.returns-then-n-gt-INFORMATION
unfolding write_block
returns-then-n-gt-INFORMATION c = wrote-refused _ _ (rw (le-ltb _ _ c.if-out-n.false, lt-ltb 250 _ c.if-n-gt-INFORMATION.true))

pub returns-then-is_right : goal.returns-then-is_right
returns-then-is_right c =
    let a = c.args in
    let good = sym c.is_right.ensures ∙ c.if-is_right.true in
    let made = write_right a.info.now a.ending _ c.if-out-n.false c.if-n-gt-INFORMATION.false good in
    wrote-done (block_of a.info.now a.ending) _ _ _ made (sym (block-length a.info.now a.ending)) c.put_block.ensures

pub returns-then-are : goal.returns-then-are
returns-then-are c =
    let bad = sym c.is_right.ensures ∙ c.if-is_right.false in
    wrote-refused _ _ (wrong _ _ _ c.if-out-n.false c.if-n-gt-INFORMATION.false bad ∙ rw (← c.are.ensures, c.if-are.true))

pub returns : goal.returns
returns c =
    let bad = sym c.is_right.ensures ∙ c.if-is_right.false in
    wrote-refused _ _ (wrong _ _ _ c.if-out-n.false c.if-n-gt-INFORMATION.false bad ∙ rw (← c.are.ensures, c.if-are.false))
