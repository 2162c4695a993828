-- `remove_before` meets its contract: where as many records are kept as there were, none was chosen; else the trailer goes behind those kept.
use mathlib.Core.Bool.{true}
use mathlib.Core.Path.{◌≡◌}
use Prim.Native.Nat.{◌≤◌}
use native.Mathlib.Omega.{arith}
use lib.ListN.{length}
use Rattle.line.proofs.AllLaws.{all-bytes}
use Rattle.line.specs.Character.{byte}
use Rattle.line.specs.Test.{all}
use Rattle.std.specs.Prelude.{Ok}
use Rattle.delete.specs.Inner.{Compacts}
use Rattle.delete.proofs.CompactionLaws.{kept_before, compacted, compacts_within}
use Rattle.delete.proofs.RemovalLaws.{removed_refused, removed_none, removed_some}
use borrow.Author.Rules.{rules}
use Rattle.delete.proofs.compaction.remove_before.Goals as goal
use Rattle.delete.proofs.compaction.remove_before.Goals.{In_ok-kept}

-- the position lies in the journal
inside : (c : In_ok-kept) → c.args.position.end ≤ length c.args.journal.now
inside c = omega (arith, c.requires.0)

-- the journal is of bytes
bytes : (c : In_ok-kept) → all byte c.args.journal.now ≡ true
bytes c = all-bytes _ (search rules)

-- what was kept
kept : (c : In_ok-kept) →
    let a = c.args in
    Compacts (kept_before a.choice 1 a.journal.now a.position) (Ok c.in_ok-kept.kept) a.journal.now c.compact.new.journal
kept c = c.in_ok-kept.ensures

-- it ends no later, and is no more
within : (c : In_ok-kept) → let a = c.args in (c.in_ok-kept.kept.end ≤ a.position.end) × (c.in_ok-kept.kept.left ≤ a.position.left)
within c = compacts_within _ _ _ _ _ _ (inside c) (bytes c) (kept c)

pub returns-then-kept-position : goal.returns-then-kept-position
returns-then-kept-position c =
    let h = (goal.at.returns-then-kept-position c).In_ok-kept in
    removed_none _ _ _ _ _ (compacted _ _ _ _ _ _ (kept h)) (bytes h) (inside h) c.if-kept-position.true

pub put_trailer-requires : goal.put_trailer-requires
put_trailer-requires c =
    let (low, few) = within (goal.at.put_trailer-requires c).In_ok-kept in
    let pre = c.requires in
    (omega (arith, low, pre.0), omega (arith, low, pre.1), omega (arith, few, pre.2))

pub overflow_add-result : goal.overflow_add-result
overflow_add-result c = omega (arith, (within (goal.at.overflow_add-result c).In_ok-kept).0, c.requires.1)

pub returns : goal.returns
returns c =
    let a = c.args in
    let fewer = compacted _ _ _ _ _ _ (kept (goal.at.returns c).In_ok-kept) in
    rw c.put_trailer.ensures (removed_some a.choice _ _ a.position _ fewer c.if-kept-position.false)

pub returns-in_err-kept : goal.returns-in_err-kept
returns-in_err-kept c = removed_refused c.args.choice _ _ c.args.position _ _ c.from_residual.ensures.1 c.in_err-kept.ensures
