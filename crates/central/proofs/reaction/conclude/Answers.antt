-- `conclude` meets its contract: with nothing pending the block is the transaction, else the copy holds both, one behind the other.
use Rattle.std.proofs.Common.{◌≤◌, length, arith}
use Rattle.line.proofs.LaidLaws.{laid-start}
use Rattle.central.proofs.reaction.conclude.Goals as goal

pub store-requires-2 : goal.store-requires-2
store-requires-2 c =
    (c.requires.0.journal, rw (laid-start c.join-n.ensures) c.requires.1)

pub returns : goal.returns
returns c =
    let p = c.requires.0 in
    let inside : c.args.control.length ≤ length c.args.pending.now = omega (arith, p) in
    rw (laid-start c.join-n.ensures) at (c.store-2.ensures c.args.pending.now inside)
