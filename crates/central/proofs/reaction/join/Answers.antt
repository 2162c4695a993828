-- `join` meets its contract: the second copy lies behind the first.
use mathlib.Core.List.{◌++◌}
use mathlib.Core.Path.{◌≡◌, refl, sym}
use Prim.Native.Nat.{◌+◌, ◌-◌}
use native.Mathlib.Omega.{arith}
use lib.ListN.{length, drop, length-append}
use Rattle.line.specs.Answer.{overlay}
use Rattle.line.proofs.CopyLaws.{copied-behind}
use Rattle.central.proofs.reaction.join.Goals as goal

pub returns : goal.returns
unfolding overlay
returns c =
    let a = c.args in
    let first = a.first.now in
    let second = a.second.now in
    let n = length first in
    let laid : c.copy_from_slice.new.self ++ drop n a.out.now ≡ overlay first a.out.now = rw c.copy_from_slice.ensures.after in
    record {
      counts = sym (length-append first second);
      leaves = copied-behind first second a.out.now _ _ n (n + length second - n) laid refl (omega arith) c.copy_from_slice-2.ensures.after;
    }
