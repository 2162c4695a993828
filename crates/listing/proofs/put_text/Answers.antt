-- `put_text` meets its contract: the output has room behind what is there, so the text is copied there.
use mathlib.Core.Path.{◌≡◌, refl}
use Prim.Native.Nat.{◌+◌, ◌-◌}
use native.Mathlib.Omega.{arith}
use lib.ListN.{length}
use lib.Seq.{drop-drop}
use Rattle.listing.proofs.put_text.Goals as goal

pub returns : goal.returns
returns c =
    let a = c.args in
    let n = length a.text.now in
    let part : a.at + n - a.at ≡ n = omega arith in
    record { ends = refl; leaves = rw (c.copy_from_slice.ensures.after, part, drop-drop) }
