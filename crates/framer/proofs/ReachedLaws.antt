-- The start leads to the states in range, and to no others: what feeding leaves can be held, and what can be held is held again where it is fed to nothing.
use mathlib.Core.Bool.{true}
use mathlib.Core.List.{List, [], ◌∷◌}
use Rattle.std.specs.Prelude.{None}
use mathlib.Core.Path.{◌≡◌, refl, ap, ◌∙◌}
use Prim.Native.Nat.{ℕ}
use native.Mathlib.Omega.{arith}
use lib.ListN.{length}
use Rattle.line.specs.Answer.{done}
use Rattle.framer.specs.Framing.{fed, unfinished}
use Rattle.framer.specs.State.{held_in, in_range, Reached, begun, onward, emptied}
use Rattle.framer.specs.declared.Framer.{Framer}
use Rattle.framer.proofs.DriverLaws.{fed-state, held-going, fed-nothing}
use Rattle.framer.proofs.FramingLaws.{held-opens, fed_alone}
use Rattle.framer.proofs.StateLaws.{done-tested, state_in_range_lem, range-held, range-state}

-- to what the start leads is in range
pub reached_in_range : {s : Framer} → Reached s → in_range s ≡ true
unfolding unfinished
reached_in_range begun = state_in_range_lem [] refl
reached_in_range (onward {s} {f} before bytes room e) =
    let (ranged, _, is) = done-tested s room (fed (held_in s) bytes) f e in
    state_in_range_lem f.held (held-going (held_in s) bytes f (range-held s ranged) is)
reached_in_range (emptied before room e) = state_in_range_lem [] refl

-- what can be held is held where it is fed to nothing
held-again : (h : List ℕ) → unfinished h ≡ true → fed [] h ≡ record { string = None; used = length h; held = h }
unfolding unfinished
held-again [] u = fed-nothing [] u
held-again (b ∷ bs) u = fed_alone b bs (held-opens b bs u).0 (held-opens b bs u).1

-- the start leads to every state in range: the bytes that it holds do
pub in_range-reached : (s : Framer) → in_range s ≡ true → length s.held ≡ 256 → Reached s
unfolding unfinished
in_range-reached s ranged sized =
    let h = held_in s in
    let fits = fed-state [] h 256 refl (omega arith) ∙ ap done (held-again h (range-held s ranged)) in
    rw (range-state s ranged sized) (onward begun h 256 fits)
