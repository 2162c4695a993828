-- `hold` meets its contract: both are laid over zeros, one behind the other.
use mathlib.Core.List.{◌++◌}
use mathlib.Core.Path.{◌≡◌, refl, sym, ap, ◌∙◌}
use Prim.Native.Nat.{◌+◌, ◌-◌}
use lib.ListN.{length, drop, length-append}
use Rattle.line.specs.Answer.{overlay}
use Rattle.line.proofs.OverlayLaws.{overlay-none}
use Rattle.line.proofs.CopyLaws.{copied-behind}
use Rattle.framer.specs.State.{blank}
use native.Mathlib.Omega.{arith}
use Rattle.framer.proofs.hold.Goals as goal

pub returns : goal.returns
unfolding overlay
returns c =
    let held = c.args.held.now in
    let bytes = c.args.bytes.now in
    let n = length held in
    let zeros : c.start.result.held ≡ blank = ap (λ x. x.held) c.start.ensures ∙ sym (overlay-none blank) in
    let laid : c.copy_from_slice.new.self ++ drop n c.start.result.held ≡ overlay held blank = rw (c.copy_from_slice.ensures.after, zeros) in
    let both = copied-behind held bytes blank _ _ n (n + length bytes - n) laid refl (omega arith) c.copy_from_slice-2.ensures.after in
    let count : n + length bytes ≡ length (held ++ bytes) = sym (length-append held bytes) in
    λ i. record { held = both i; length = count i }
