-- Laws that docs/ names and that no proof of the crate uses any more.
use mathlib.Core.List.{List, append-nil}
use mathlib.Core.Path.{◌≡◌, ◌∙◌}
use Prim.Native.Nat.{ℕ, ◌+◌, ◌-◌, ◌≤◌}
use native.Mathlib.Omega.{arith}
use lib.ListN.{length, get_or, drop}
use lib.Seq.{get_or-append-add, get_or-drop}
use Rattle.line.proofs.OverlayLaws.{overlay-own}
use Rattle.line.specs.Answer.{overlay}
use Rattle.delete.specs.Inner.{moved_down}

-- behind what lies over the memory its bytes are read
pub overlay_ahead : (a m : List ℕ) (i : ℕ) → length a ≤ i → get_or (overlay a m) i 0 ≡ get_or m i 0
unfolding overlay
overlay_ahead a m i h =
    let k : ℕ = i - length a in
    let at : length a + k ≡ i = omega arith in
    rw at at (get_or-append-add a (drop (length a) m) k 0 ∙ get_or-drop (length a) m k 0)

-- nothing is moved yet
pub moved_none : (b : List ℕ) (to from : ℕ) → to ≤ length b → b ≡ moved_down to from 0 b
moved_none b to from h = overlay-own to b h ∙ rw append-nil
