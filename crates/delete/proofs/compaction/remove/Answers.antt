-- `remove` meets its contract: the journal is what the walk back from its trailer meets, and a trailer that is refused refuses it.
use mathlib.Core.Path.{sym}
use native.Mathlib.Omega.{arith}
use Rattle.append.proofs.TailLaws.{wrote-handed}
use Rattle.journal.proofs.StorageLaws.{trailer_in_parts}
use Rattle.delete.proofs.RemovalLaws.{opened-decode, unopened_decode}
use Rattle.delete.proofs.compaction.remove.Goals as goal

pub remove_before-requires : goal.remove_before-requires
remove_before-requires c =
    let (size, within, ends, small, few) = trailer_in_parts _ _ _ (sym c.in_ok-position.ensures) in
    (omega arith, small, few)

pub returns-in_err-position : goal.returns-in_err-position
returns-in_err-position c = wrote-handed _ _ _ c.from_residual.ensures.1 (rw (unopened_decode _ _ _ (sym c.in_err-position.ensures)))

pub returns : goal.returns
returns c = rw (opened-decode _ _ _ (sym c.in_ok-position.ensures)) c.remove_before.ensures
