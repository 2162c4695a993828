-- Laws of copying into lent memory: the first byte, a copy that has room, one into the part behind what is laid already, and bytes copied right behind it.
use Rattle.std.specs.Prelude.{Result}
use mathlib.Core.List.{List, [], ◌∷◌, ◌++◌, append_assoc}
use mathlib.Core.Path.{◌≡◌, refl, sym}
use Prim.Native.Nat.{ℕ, ◌+◌, ◌-◌, ◌≤◌}
use native.Mathlib.Omega.{arith}
use borrow.Author.Tests.{le-ltb}
use lib.ListN.{length, take, drop, set, length-append}
use lib.Seq.{take_at, drop_at, drop-drop}
use Rattle.line.specs.Answer.{Laid, Wrote, copied, overlay}
use Rattle.line.specs.declared.answer.Refusal.{Refusal}
use Rattle.line.proofs.OverlayLaws.{overlay-snoc}
use Rattle.line.proofs.LaidLaws.{part_length, laid-length, laid-part}

-- one byte, stored at the start
pub overlay-first : (m : List ℕ) (v : ℕ) → 1 ≤ length m → set m 0 v ≡ overlay (v ∷ []) m
unfolding overlay
overlay-first m v h = overlay-snoc [] m 0 v refl h

-- a copy that has room is made
pub copied-laid : {r : Result ℕ Refusal} (xs m after : List ℕ) → length xs ≤ length m → Wrote (copied xs (length m)) r m after → after ≡ overlay xs m
unfolding copied
copied-laid xs m after h w = rw (le-ltb (length m) (length xs) h) at w.leaves

-- a copy was lent the memory from the end of a on, and had room
pub copied-part : {r : Result ℕ Refusal} (a xs m out after : List ℕ) (n : ℕ) → out ≡ overlay a m → length a ≡ n → n + length xs ≤ length m →
    Wrote (copied xs (length (take (length out - n) (drop n out)))) r (take (length out - n) (drop n out)) after →
    take n out ++ (after ++ drop (length out - n) (drop n out)) ≡ overlay (a ++ xs) m
copied-part a xs m out after n e l h w =
    let laid : Laid a n m out = record { counts = sym l; leaves = e } in
    let room = part_length n out in
    let long = laid-length laid (omega arith) in
    (laid-part laid h (record { counts = refl; leaves = copied-laid xs (take (length out - n) (drop n out)) after (omega arith) w })).leaves

-- bytes copied right behind what is laid already
pub copied-behind : (a b m out after : List ℕ) (n k : ℕ) → out ≡ overlay a m → length a ≡ n → length b ≡ k → after ≡ b → take n out ++ (after ++ drop k (drop n out)) ≡ overlay (a ++ b) m
unfolding overlay
copied-behind a b m out after n k l e f h =
    let d : List ℕ = drop (length a) m in
    rw (l, h, take_at a d n e, drop_at a d n e, ← f, drop-drop, length-append, append_assoc)
