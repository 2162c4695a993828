-- A record and the trailer as the code writes them: a number laid behind what lies over the memory, and the tail over the free part of the buffer.
use Rattle.line.proofs.OutcomeLaws.{handed-refusal}
use mathlib.Core.Bool.{true}
use mathlib.Core.List.{List, [], ◌∷◌, ◌++◌, append-nil, append_assoc}
use mathlib.Core.Path.{◌≡◌, sym, ap, ◌∙◌}
use Prim.Native.Nat.{ℕ, ◌+◌, ◌-◌, ◌/◌, ◌%◌, ◌≤◌}
use native.Mathlib.Omega.{arith}
use borrow.Author.Tests.{le-leb}
use lib.ListN.{length, take, drop, set, length-append, length-drop, drop_of_length-le}
use lib.Seq.{length-take-le, take_all}
use Rattle.line.proofs.OverlayLaws.{overlay-append, overlay-none, overlay-snoc, wrote-done}
use Rattle.line.specs.Answer.{Outcome, refused, refusal_number, overlay, Wrote}
use Rattle.line.specs.declared.answer.Refusal.{Refusal}
use Rattle.std.specs.Prelude.{Ok, Result, IsErrAnd}
use Rattle.journal.proofs.RecordLaws.{record_length}
use Rattle.journal.specs.Encoding.{two_bytes}
use Rattle.journal.specs.declared.cursor.Position.{Position}
use Rattle.append.specs.Append.{tail_of, room_at, extended, behind}

-- a number in two bytes, stored right behind what lies over the memory
pub overlay-number : (a m out : List ℕ) (at v : ℕ) → out ≡ overlay a m → length a ≡ at → at + 2 ≤ length m → set (set out at (v / 256)) (at + 1) (v % 256) ≡ overlay (a ++ two_bytes v) m
overlay-number a m out at v e l h =
    let high : length (a ++ (v / 256) ∷ []) ≡ at + 1 = length-append a ((v / 256) ∷ []) ∙ rw l in
    rw (e, overlay-snoc a m at (v / 256) l (omega arith), overlay-snoc (a ++ (v / 256) ∷ []) m (at + 1) (v % 256) high (omega arith)) (rw append_assoc)

-- the bytes with one record more: their number
pub extended-length : (buffer : List ℕ) (p : Position) (t : List ℕ) → p.end ≤ length buffer → length (extended buffer p t) ≡ p.end + (length t + 2) + 4
extended-length buffer p t h = simp length-append (omega (arith, length-take-le p.end buffer h, record_length t))

-- the tail laid over the free part leaves the buffer with the longer journal laid over it
pub behind-wrote : (buffer : List ℕ) (p : Position) (t last : List ℕ) → p.end ≤ length buffer → 1 ≤ length t → length t ≤ 2000 → room_at p t ≡ true →
    last ≡ overlay (tail_of t (p.left + 1) (p.end + (length t + 2))) (take (length buffer - p.end) (drop p.end buffer)) →
    Wrote (behind buffer p t) (Ok (p.end + (length t + 2) + 4)) buffer (take p.end buffer ++ (last ++ drop (length buffer - p.end) (drop p.end buffer)))
behind-wrote buffer p t last h some short room l =
    let free : List ℕ = drop p.end buffer in
    let part : length free ≤ length buffer - p.end = rw length-drop (omega arith) in
    let tail : List ℕ = tail_of t (p.left + 1) (p.end + (length t + 2)) in
    let laid = overlay-append (take p.end buffer) tail buffer ∙ ap (λ k. take p.end buffer ++ overlay tail (drop k buffer)) (length-take-le p.end buffer h) in
    wrote-done (extended buffer p t) _ _ _ (rw (le-leb 1 (length t) some, le-leb (length t) 2000 short, room)) (sym (extended-length buffer p t h))
    (rw (l, take_all (length buffer - p.end) free part, drop_of_length-le free part, append-nil) (sym laid))

-- a refusal that is handed on with `?`, before anything is written
pub wrote-handed : {o : Outcome (List ℕ)} (q : Refusal) (r : Result ℕ Refusal) (m : List ℕ) → IsErrAnd r (λ x. x ≡ q) → o ≡ refused (refusal_number q) → Wrote o r m m
wrote-handed q r m h e = record { answers = handed-refusal q r h ∙ rw e; leaves = rw e (overlay-none m) }
