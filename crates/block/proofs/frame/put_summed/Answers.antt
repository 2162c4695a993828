-- `put_summed` meets its contract: STX is stored, the information copied behind it, and the ending stored behind that.
use mathlib.Core.List.{[], ◌∷◌}
use mathlib.Core.Path.{◌≡◌, refl}
use Prim.Native.Nat.{◌+◌, ◌-◌}
use borrow.Rule.Slice.PartMut.{put_mid}
use lib.ListN.{length, set}
use Rattle.line.specs.Answer.{overlay}
use Rattle.line.specs.Character.{STX}
use Rattle.line.proofs.OverlayLaws.{overlay-snoc}
use Rattle.line.proofs.CopyLaws.{overlay-first, copied-part}
use native.Mathlib.Omega.{arith}
use Rattle.block.proofs.frame.put_summed.Goals as goal

pub returns : goal.returns
returns c =
    let a = c.args in
    let n = length a.info.now in
    let m = set a.out.now 0 STX in
    let laid : put_mid 1 (length m - 1) m c.copy.new.out ≡ overlay (STX ∷ a.info.now) a.out.now =
    copied-part (STX ∷ []) a.info.now a.out.now _ _ 1 (overlay-first a.out.now STX (omega arith)) refl (omega arith) c.copy.ensures in
    rw (laid, c.from.ensures) (overlay-snoc (STX ∷ a.info.now) a.out.now (n + 1) _ (omega arith) (omega arith))
