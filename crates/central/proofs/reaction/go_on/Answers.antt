-- `go_on` meets its contract: the copy lies behind the pending information.
use mathlib.Core.Path.{refl}
use Prim.Native.Nat.{◌+◌, ◌-◌}
use native.Mathlib.Omega.{arith}
use lib.ListN.{length}
use lib.Seq.{length-take-le}
use Rattle.line.proofs.OverlayLaws.{overlay-own}
use Rattle.line.proofs.CopyLaws.{copied-behind}
use Rattle.central.specs.Inner.{pending_in}
use Rattle.central.proofs.reaction.go_on.Goals as goal

pub returns : goal.returns
returns c =
    let k = c.args.control in
    let array = c.args.pending.now in
    let info = c.args.info.now in
    record {
      reacted = refl;
      laid = copied-behind (pending_in k array) info array array _ k.length (k.length + length info - k.length) (overlay-own k.length array (omega (arith, c.requires))) (length-take-le k.length array (omega (arith, c.requires))) (omega arith) c.copy_from_slice.ensures.after;
    }
