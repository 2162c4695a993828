-- Bytes moved down within the memory: what is moved lies behind what stood there, and all behind it is as it was.
use mathlib.Core.List.{List, ◌++◌, append_assoc}
use mathlib.Core.Path.{◌≡◌, refl, ◌∙◌}
use Prim.Native.Nat.{ℕ, ◌+◌, ◌-◌, ◌≤◌}
use native.Mathlib.Omega.{arith}
use borrow.Rule.Slice.PartMut.{put_mid}
use lib.ListN.{length, take, drop, length-append, length-drop}
use lib.Seq.{paste, length-take-le, take-add}
use Rattle.line.proofs.CopyLaws.{copied-behind}
use Rattle.line.proofs.OverlayLaws.{overlay-own, overlay-start}
use Rattle.line.specs.Answer.{overlay}
use Rattle.journal.proofs.StorageLaws.{drop-over}
use Rattle.journal.specs.Encoding.{two_bytes}
use Rattle.delete.specs.Inner.{moved_down, trailer_of}

-- the bytes up to the last one moved
moved_length : (b : List ℕ) (to from n : ℕ) → to ≤ from → from + n ≤ length b → length (take to b ++ take n (drop from b)) ≡ to + n
moved_length b to from n down h =
    let fits : n ≤ length (drop from b) = rw length-drop (omega arith) in
    rw (length-append, length-take-le to b (omega arith), length-take-le n (drop from b) fits)

-- bytes that are copied within the memory, from a place to an earlier one
pub copied_down : (b : List ℕ) (to from n : ℕ) → to ≤ from → from + n ≤ length b → paste b to (drop from b) (from + n - from) ≡ moved_down to from n b
unfolding overlay
copied_down b to from n down h =
    let span : from + n - from ≡ n = omega arith in
    rw (span, moved_length b to from n down h, append_assoc)

-- bytes that stay where they are
pub moved_nowhere : (b : List ℕ) (at n : ℕ) → at + n ≤ length b → b ≡ moved_down at at n b
moved_nowhere b at n h = overlay-own (at + n) b h ∙ rw (take-add at n b)

-- what is laid over the memory covers what lay there before it
pub overlay-longer : (b front part : List ℕ) → overlay (front ++ part) (overlay front b) ≡ overlay (front ++ part) b
unfolding overlay
overlay-longer b front part =
    let long : length front ≤ length (front ++ part) = rw length-append (omega arith) in
    rw (drop-over (length (front ++ part)) front b long)

-- bytes from behind what lies over the memory, moved down to its end, lie there too
pub moved-laid : (b front part : List ℕ) (from : ℕ) → length front ≤ from → take (length part) (drop from b) ≡ part →
    moved_down (length front) from (length part) (overlay front b) ≡ overlay (front ++ part) b
unfolding overlay
moved-laid b front part from h e =
    let kept : take (length front) (overlay front b) ≡ front = overlay-start front b (length front) refl in
    let ahead : drop from (overlay front b) ≡ drop from b = drop-over from front b h in
    rw (kept, ahead, e) (overlay-longer b front part)

-- a trailer copied to a place, number by number
pub trailer-copied : (b one two : List ℕ) (at count size : ℕ) → at + 4 ≤ length b → one ≡ two_bytes count → two ≡ two_bytes size →
    put_mid (at + 2) (at + 4 - (at + 2)) (put_mid at (at + 2 - at) b one) two ≡ overlay (take at b ++ trailer_of count size) b
trailer-copied b one two at count size h e f =
    let front : List ℕ = take at b in
    let long : length front ≡ at = length-take-le at b (omega arith) in
    let first = copied-behind front (two_bytes count) b b one at (at + 2 - at) (overlay-own at b (omega arith)) long (omega arith) e in
    let both : length (front ++ two_bytes count) ≡ at + 2 = length-append front (two_bytes count) ∙ rw long in
    copied-behind (front ++ two_bytes count) (two_bytes size) b _ two (at + 2) (at + 4 - (at + 2)) first both (omega arith) f ∙ rw append_assoc
