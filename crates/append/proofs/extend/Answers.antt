-- `extend` meets its contract: the trailer is tested as `trailer_in` has it, and the record goes behind the position that it gives.
use mathlib.Core.Path.{sym}
use Rattle.append.proofs.TailLaws.{wrote-handed}
use Rattle.journal.proofs.StorageLaws.{trailer_in_parts}
use Rattle.append.specs.Append.{extend_to}
use Rattle.append.proofs.extend.Goals as goal

pub put_behind-requires : goal.put_behind-requires
put_behind-requires c =
    let (size, _, _, small, few) = trailer_in_parts _ _ _ (sym c.in_ok-position.ensures) in
    (size, small, few)

pub returns-in_err-position : goal.returns-in_err-position
unfolding extend_to
returns-in_err-position c = wrote-handed _ _ _ c.from_residual.ensures.1 (rw (sym c.in_err-position.ensures))

pub returns : goal.returns
unfolding extend_to
returns c = rw (sym c.in_ok-position.ensures) c.put_behind.ensures
