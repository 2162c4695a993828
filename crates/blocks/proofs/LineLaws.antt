-- Laws of a text that is read in pieces: the characters up to an LF, the LF, a text in two pieces.
-- And that what was written out and what waits at the end is what each line prints, though only 2,000 of its characters are kept.
use Rattle.std.specs.Prelude.{if◌then◌else◌}
use mathlib.Core.Bool.{Bool, true, false}
use mathlib.Core.List.{List, [], ◌∷◌, ◌++◌, flat_map, append_assoc, append-nil}
use mathlib.Core.Path.{◌≡◌, refl, sym, ap, ◌∙◌}
use Prim.Native.Nat.{ℕ, suc, ◌+◌, ◌-◌, ◌≤◌, ◌<◌}
use native.Mathlib.Nat.{not-suc-le-zero, le_of_suc-le-suc}
use native.Mathlib.Numerals.{add-one}
use native.Mathlib.Omega.{arith}
use borrow.Author.Tests.{eqb-true, eq-eqb, lt-ltb, leb-true, leb-false}
use lib.Dec.{eqb, leb, ltb}
use lib.ListN.{length, get_or, take, drop, length-take, length-drop}
use lib.Seq.{take_all, take_at, take-append-le, length-take-le, drop-cons, drop-drop, get_or-drop}
use Rattle.line.specs.Answer.{Laid}
use Rattle.line.specs.Character.{LF}
use Rattle.line.specs.Test.{before}
use Rattle.blocks.specs.Lines.{State, lines, leaves, stays, printed, longer, taken, finished, nothing, stand, Took, Listed}
use Rattle.blocks.specs.declared.Filled.{Filled}
use Rattle.listing.specs.Listing.{listing, checked_line}
use Rattle.line.proofs.FindLaws.{find-within}
use Rattle.line.proofs.LaidLaws.{laid-start, laid-within}

-- ── Where a member stands ──

-- the member stands there
before-found : (y : ℕ) (xs : List ℕ) → before y xs < length xs → get_or xs (before y xs) 0 ≡ y
unfolding before
before-found y [] h = absurd (not-suc-le-zero h)
before-found y (x ∷ xs) h = go (eqb x y) refl (before-found y xs) h
  where
    go : (b : Bool) → eqb x y ≡ b → (before y xs < length xs → get_or xs (before y xs) 0 ≡ y) → (if b then 0 else suc (before y xs)) < length (x ∷ xs) →
        get_or (x ∷ xs) (if b then 0 else suc (before y xs)) 0 ≡ y
    go true e n h = eqb-true x y e
    go false e n h = n (le_of_suc-le-suc h)

-- ── What is kept and what is printed ──

-- a state by its parts
abbrev pub state : List ℕ → List ℕ → List ℕ → State
state k w p = record { kept = k; written = w; waits = p }

-- the same behind what was written out before
abbrev behind : List ℕ → State → State
behind v s = state s.kept (v ++ s.written) s.waits

-- a list cut before more is put behind it, and cut again
take-cut : (n : ℕ) (a b : List ℕ) → take n (take n a ++ b) ≡ take n (a ++ b)
take-cut n a b = go (leb (length a) n) refl
  where
    go : (t : Bool) → leb (length a) n ≡ t → take n (take n a ++ b) ≡ take n (a ++ b)
    go true e = rw (take_all n a (leb-true (length a) n e))
    go false e =
        let far : n ≤ length a = omega (arith, leb-false (length a) n e) in
        take_at (take n a) b n (length-take-le n a far) ∙ sym (take-append-le n a b far)

-- the characters before the first LF
taken-kept : (room : ℕ) (k w p text : List ℕ) → length k ≤ 2000 →
    taken room (state k w p) text ≡ taken room (state (take 2000 (k ++ take (before LF text) text)) w p) (drop (before LF text) text)
unfolding taken before
taken-kept room k w p [] h = rw (append-nil, take_all 2000 k h)
taken-kept room k w p (c ∷ text) h = go (eqb c LF) refl (taken-kept room (take 2000 (k ++ c ∷ [])) w p text (rw length-take (omega arith)))
  where
    go : (b : Bool) → eqb c LF ≡ b →
        taken room (state (take 2000 (k ++ c ∷ [])) w p) text ≡ taken room (state (take 2000 (take 2000 (k ++ c ∷ []) ++ take (before LF text) text)) w p) (drop (before LF text) text) →
        taken room (state k w p) (c ∷ text) ≡ taken room (state (take 2000 (k ++ take (if b then 0 else suc (before LF text)) (c ∷ text))) w p) (drop (if b then 0 else suc (before LF text)) (c ∷ text))
    go true e n = rw (append-nil, take_all 2000 k h)
    go false e n = rw e (n ∙ rw (take-cut 2000 (k ++ c ∷ []) (take (before LF text) text), append_assoc))

-- the first LF of a piece from a place on has been looked for
module _ (piece : List ℕ) (at end : ℕ) (found : end ≡ at + before LF (drop at piece)) where
  -- it is within the piece
  pub found_within : at ≤ length piece → (at ≤ end) × (end ≤ length piece)
  found_within h = omega (arith, find-within LF piece at h)

  -- the characters up to it are kept
  pub taken-part : (room : ℕ) (k w p : List ℕ) → length k ≤ 2000 →
      taken room (state k w p) (drop at piece) ≡ taken room (state (take 2000 (k ++ take (end - at) (drop at piece))) w p) (drop end piece)
  taken-part room k w p h =
      let part : end - at ≡ before LF (drop at piece) = omega arith in
      rw (part, found) (rw (drop-drop (before LF (drop at piece)) at piece) at (taken-kept room k w p (drop at piece) h))

  -- and it prints the line
  pub taken-line : (room : ℕ) (s : State) → end < length piece → taken room s (drop end piece) ≡ taken room (printed room s) (drop (end + 1) piece)
  unfolding taken
  taken-line room s h =
      let place = before-found LF (drop at piece) (omega (arith, length-drop at piece)) in
      let there : get_or piece end 0 ≡ LF = rw found (rw (get_or-drop at piece (before LF (drop at piece)) 0) at place) in
      rw (add-one, drop-cons piece end 0 h, eq-eqb (get_or piece end 0) LF there)

-- a text read in two pieces
taken-append : (room : ℕ) (s : State) (a b : List ℕ) → taken room s (a ++ b) ≡ taken room (taken room s a) b
unfolding taken
taken-append room s [] b = refl
taken-append room s (c ∷ a) b = go (eqb c LF) (taken-append room (printed room s) a b) (taken-append room (longer c s) a b)
  where
    go : (t : Bool) → taken room (printed room s) (a ++ b) ≡ taken room (taken room (printed room s) a) b → taken room (longer c s) (a ++ b) ≡ taken room (taken room (longer c s) a) b →
        (if t then taken room (printed room s) (a ++ b) else taken room (longer c s) (a ++ b)) ≡ taken room (if t then taken room (printed room s) a else taken room (longer c s) a) b
    go true l o = l
    go false l o = o

-- what was written out before stays in front
taken-behind : (room : ℕ) (k v w p text : List ℕ) → taken room (state k (v ++ w) p) text ≡ behind v (taken room (state k w p) text)
unfolding taken
taken-behind room k v w p [] = refl
taken-behind room k v w p (c ∷ text) =
    go (eqb c LF) (taken-behind room [] v (w ++ leaves room p) (stays room p ++ listing k) text) (taken-behind room (take 2000 (k ++ c ∷ [])) v w p text)
  where
    go : (b : Bool) →
        taken room (state [] (v ++ (w ++ leaves room p)) (stays room p ++ listing k)) text ≡ behind v (taken room (printed room (state k w p)) text) →
        taken room (longer c (state k (v ++ w) p)) text ≡ behind v (taken room (longer c (state k w p)) text) →
        (if b then taken room (printed room (state k (v ++ w) p)) text else taken room (longer c (state k (v ++ w) p)) text) ≡
        behind v (if b then taken room (printed room (state k w p)) text else taken room (longer c (state k w p)) text)
    go true l o = rw append_assoc l
    go false l o = o

-- so two pieces are as one
pub took_append : {s t l₀ o₀ l o l' o' : List ℕ} {f₀ f f' : Filled} → length o ≡ length o₀ → Took s l₀ o₀ l o f₀ f → Took t l o l' o' f f' → Took (s ++ t) l₀ o₀ l' o' f₀ f'
took_append {s} {t} {l₀} {o₀} {l} {o} {l'} {o'} {f₀} {f} {f'} long d e =
    let room = length o₀ in
    record {
      within = e.within;
      written = d.written ++ e.written;
      right =
          taken-append room (stand [] f₀ l₀ o₀) s t
          ∙ rw (d.right, ← append-nil d.written) (taken-behind room (take f.kept l) d.written [] (take f.waiting o) t
          ∙ rw (rw long at e.right, append-nil));
    }

-- ── What is printed ──

-- a line cut behind 2,000 characters prints the same
listing-cut : (line : List ℕ) → listing (take 2000 line) ≡ listing line
unfolding listing checked_line
listing-cut line = go (leb (length line) 2000) refl
  where
    go : (b : Bool) → leb (length line) 2000 ≡ b → listing (take 2000 line) ≡ listing line
    go true e = rw (take_all 2000 line (leb-true (length line) 2000 e))
    go false e =
        let far = leb-false (length line) 2000 e in
        let cut = length-take-le 2000 line (omega arith) in
        rw (lt-ltb 1999 (length (take 2000 line)) (omega arith), lt-ltb 1999 (length line) (omega arith))

-- what is written out and what waits still is what waited
whole : (room : ℕ) (p : List ℕ) → leaves room p ++ stays room p ≡ p
unfolding leaves stays
whole room p = go (ltb room (length p + 10248))
  where
    go : (b : Bool) → (if b then p else []) ++ (if b then [] else p) ≡ p
    go true = append-nil p
    go false = refl

-- a line printed stands behind what was written out and what waits
printed-behind : (room : ℕ) (line w p : List ℕ) → (w ++ leaves room p) ++ (stays room p ++ listing (take 2000 line)) ≡ (w ++ p) ++ listing line
printed-behind room line w p = simp append_assoc (rw (listing-cut line, ← append_assoc (leaves room p) (stays room p) (listing line), whole room p))

-- what was written out and what waits at the end of a text is what each line prints, however long, a last one without LF too
finished-lines : (room : ℕ) (line w p text : List ℕ) →
    let s = finished room (taken room (state (take 2000 line) w p) text) in
    s.written ++ s.waits ≡ (w ++ p) ++ flat_map listing (lines line text)
unfolding taken lines flat_map
finished-lines room [] w p [] = rw append-nil
finished-lines room (c ∷ line) w p [] =
    rw (lt-ltb 0 (length (take 2000 (c ∷ line))) (rw length-take (omega arith)), append-nil) (printed-behind room (c ∷ line) w p)
finished-lines room line w p (c ∷ text) =
    go (eqb c LF) (finished-lines room [] (w ++ leaves room p) (stays room p ++ listing (take 2000 line)) text) (finished-lines room (line ++ c ∷ []) w p text)
  where
    go : (b : Bool) →
        (let s = finished room (taken room (printed room (state (take 2000 line) w p)) text) in
        s.written ++ s.waits ≡ ((w ++ leaves room p) ++ (stays room p ++ listing (take 2000 line))) ++ flat_map listing (lines [] text)) →
        (let s = finished room (taken room (state (take 2000 (line ++ c ∷ [])) w p) text) in
        s.written ++ s.waits ≡ (w ++ p) ++ flat_map listing (lines (line ++ c ∷ []) text)) →
        let s = finished room (if b then taken room (printed room (state (take 2000 line) w p)) text else taken room (longer c (state (take 2000 line) w p)) text) in
        s.written ++ s.waits ≡ (w ++ p) ++ flat_map listing (if b then line ∷ lines [] text else lines (line ++ c ∷ []) text)
    go true l o = l ∙ rw (printed-behind room line w p, append_assoc (w ++ p) (listing line) (flat_map listing (lines [] text)))
    go false l o = rw (take-cut 2000 line (c ∷ [])) o

-- at the end nothing is kept, and what waits does not depend on what was written out
finished-parts : (room : ℕ) (k w p : List ℕ) →
    let s = finished room (state k w p) in
    s ≡ state [] s.written (finished room (state k [] p)).waits
finished-parts room [] w p = refl
finished-parts room (c ∷ k) w p = rw (lt-ltb 0 (length (c ∷ k)) (omega arith))

-- so a whole text is printed, once its last line is
pub took_whole : {text line₀ out₀ line out out' : List ℕ} {f : Filled} {n : ℕ} → length out ≡ length out₀ → Took text line₀ out₀ line out nothing f →
    Laid (finished (length out) (stand [] f line out)).waits n out out' → Listed out₀ out' n
took_whole {text} {out₀} {line} {out} {out'} {f} {n} long d e =
    let room = length out₀ in
    let waits = sym (rw long at (laid-start e)) in
    let parts = finished-parts room (take f.kept line) d.written (take f.waiting out) in
    let right = ap (finished room) d.right ∙ parts ∙ ap (state [] (finished room (stand d.written f line out)).written) waits in
    record {
      within = laid-within e;
      text = text;
      written = _;
      right = right;
      whole = rw right at (finished-lines room [] [] [] text);
    }
