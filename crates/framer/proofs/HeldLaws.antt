-- Laws of what is held, as the code tests it and goes on from it: of a string from STX on, no ending stands before the last four bytes held.
use mathlib.Core.Bool.{Bool, true, false, not, ◌&&◌, and-false}
use mathlib.Core.List.{List, [], ◌∷◌, ◌++◌}
use mathlib.Core.Path.{◌≡◌, refl, sym, ap, ◌∙◌}
use Prim.Native.Nat.{ℕ, ◌+◌, ◌-◌, ◌≤◌, ◌<◌, min}
use native.Mathlib.Omega.{arith}
use borrow.Author.Tests.{leb-true, leb-false, ltb-true, ltb-false, lt-ltb, le-ltb, ne_eqb}
use lib.Dec.{leb, ltb}
use lib.ListN.{length, get_or, take, drop, length-drop}
use lib.Seq.{drop-drop}
use Rattle.line.specs.Character.{STX, EOT}
use Rattle.line.specs.Parity.{seven_bits}
use Rattle.line.specs.Test.{all, before_first}
use Rattle.line.proofs.ListLaws.{length_none}
use Rattle.framer.specs.Framing.{is, is_opening, is_ending, size, unfinished}
use Rattle.line.proofs.FirstLaws.{first-within, first_absent, first-behind, first-kept, first-all, first_from, first-take}
use Rattle.framer.proofs.FramingLaws.{size_bounds, held-opens}

-- ── What can be held, as the code tests it ──

-- nothing can be held
pub held_none : (h : List ℕ) → length h ≡ 0 → unfinished h ≡ true
unfolding unfinished
held_none h e = rw (length_none h e)

-- 256 bytes and more cannot
pub held-long : (h : List ℕ) → 256 ≤ length h → unfinished h ≡ false
unfolding unfinished
held-long [] h = absurd (omega arith)
held-long (b ∷ bs) h = rw (le-ltb (length (b ∷ bs)) (size (b ∷ bs)) (omega (arith, size_bounds (b ∷ bs)))) (and-false (is_opening b))

-- what is held has at most 255 bytes
pub held-short : (h : List ℕ) → unfinished h ≡ true → length h < 256
held-short [] u = omega arith
held-short (b ∷ bs) u = omega (arith, (held-opens b bs u).1, size_bounds (b ∷ bs))

-- from EOT on that byte alone can
pub held-eot : (h : List ℕ) → 1 ≤ length h → seven_bits (get_or h 0 0) ≡ EOT → unfinished h ≡ ltb (length h) 2
unfolding unfinished size
held-eot [] some e = absurd (omega arith)
held-eot (b ∷ bs) some e = rw e

-- from neither STX nor EOT on nothing can
pub held-other : (h : List ℕ) → 1 ≤ length h → (seven_bits (get_or h 0 0) ≡ EOT → ⊥) → (seven_bits (get_or h 0 0) ≡ STX → ⊥) → unfinished h ≡ false
unfolding unfinished
held-other [] some e s = absurd (omega arith)
held-other (b ∷ bs) some e s = rw (ne_eqb _ _ e, ne_eqb _ _ s)

-- from STX on the first ending decides
held_stx : (h : List ℕ) → 1 ≤ length h → seven_bits (get_or h 0 0) ≡ STX → unfinished h ≡ ltb (length h) (min 256 (before_first is_ending (drop 1 h) + 6))
unfolding unfinished size
held_stx [] some e = absurd (omega arith)
held_stx (b ∷ bs) some e = rw e

module _ (h : List ℕ) (some : 1 ≤ length h) where
  -- up to four bytes, whatever they are
  pub held-few : seven_bits (get_or h 0 0) ≡ STX → length h < 5 → unfinished h ≡ true
  held-few e few = held_stx h some e ∙ lt-ltb (length h) _ (omega arith)

  -- more: fewer than 256, and no ending before the last four
  pub held-many : seven_bits (get_or h 0 0) ≡ STX → 5 ≤ length h → unfinished h ≡ (ltb (length h) 256 && all (λ b. not (is_ending b)) (take (length h - 5) (drop 1 h)))
  held-many e many =
      let inner : all (λ b. not (is_ending b)) (take (length h - 5) (drop 1 h)) ≡ leb (length h - 5) k = first-all is_ending (length h - 5) (drop 1 h) (rw length-drop (omega arith)) in
      held_stx h some e ∙ rw inner (go (ltb (length h) 256) (leb (length h - 5) k) refl refl)
    where
      k : ℕ
      k = before_first is_ending (drop 1 h)

      go : (s t : Bool) → ltb (length h) 256 ≡ s → leb (length h - 5) k ≡ t → ltb (length h) (min 256 (k + 6)) ≡ (s && t)
      go true true short inner = lt-ltb (length h) (min 256 (k + 6)) (omega (arith, ltb-true (length h) 256 short, leb-true (length h - 5) k inner))
      go true false short inner = le-ltb (length h) (min 256 (k + 6)) (omega (arith, leb-false (length h - 5) k inner))
      go false t long inner = le-ltb (length h) (min 256 (k + 6)) (omega (arith, ltb-false (length h) 256 long))

-- ── How long the string is to be ──

-- a string of which this is held, from STX on: the place of the first ending, from one of the last four bytes on
held-ending : (b : ℕ) (bs : List ℕ) → unfinished (b ∷ bs) ≡ true → is EOT b ≡ false → (j : ℕ) → j ≤ length bs - 4 → before_first is_ending bs ≡ j + before_first is_ending (drop j bs)
unfolding size
held-ending b bs u e j h =
    let short = rw e at (held-opens b bs u).1 in
    first_from is_ending j bs (omega arith)

-- from EOT on it is two characters
pub size-eot : (h p : List ℕ) → 1 ≤ length h → seven_bits (get_or h 0 0) ≡ EOT → size (h ++ p) ≡ 2
unfolding size
size-eot [] p l e = absurd (omega arith)
size-eot (b ∷ bs) p l e = rw e

-- from STX on the first ending decides: looked for in what is held from one of the last four bytes on, at e; where there is none, in what comes, as far as 256 bytes go
module _ (h p : List ℕ) (u : unfinished h ≡ true) (some : 1 ≤ length h) (stx : seven_bits (get_or h 0 0) ≡ EOT → ⊥) (from : ℕ) (least : 1 ≤ from) (most : from ≤ length h - 5 + 1) (e : ℕ) (is-e : e ≡ from + before_first is_ending (drop from h)) where
  -- the place in what is held
  place : (size (h ++ p) ≡ min 256 (before_first is_ending (drop 1 h ++ p) + 6)) × (e ≡ 1 + before_first is_ending (drop 1 h)) × (length (drop 1 h) + 1 ≡ length h)
  unfolding size
  place = go h u some stx is-e most
    where
      go : (h : List ℕ) → unfinished h ≡ true → 1 ≤ length h → (seven_bits (get_or h 0 0) ≡ EOT → ⊥) → e ≡ from + before_first is_ending (drop from h) → from ≤ length h - 5 + 1 →
          (size (h ++ p) ≡ min 256 (before_first is_ending (drop 1 h ++ p) + 6)) × (e ≡ 1 + before_first is_ending (drop 1 h)) × (length (drop 1 h) + 1 ≡ length h)
      go [] u l x is-e most = absurd (omega arith)
      go (b ∷ bs) u l x is-e most =
          let no-eot : is EOT b ≡ false = ne_eqb (seven_bits b) EOT x in
          let j = from - 1 in
          let next : from ≡ 1 + j = omega arith in
          let last : before_first is_ending bs ≡ j + before_first is_ending (drop j bs) = held-ending b bs u no-eot j (omega arith) in
          let same : drop from (b ∷ bs) ≡ drop j bs = ap (λ n. drop n (b ∷ bs)) next ∙ sym (drop-drop j 1 (b ∷ bs)) in
          (rw no-eot, rw same at is-e ∙ omega arith, omega arith)

  -- an ending is held
  pub size-held : e < length h → size (h ++ p) ≡ min (e + 5) 256
  size-held inside = let (is, at, count) = place in is ∙ rw (first-kept is_ending (drop 1 h) p (omega arith)) (omega arith)

  -- none is held
  pub size-comes : length h ≤ e → (m : ℕ) → m ≡ min (length p) (256 - length h) → size (h ++ p) ≡ min (length h + before_first is_ending (take m p) + 5) 256
  size-comes outside m is_m =
      let (is, at, count) = place in
      let none : before_first is_ending (drop 1 h) ≡ length (drop 1 h) = omega (arith, first-within is_ending (drop 1 h)) in
      is ∙ rw (first-behind is_ending (drop 1 h) p (first_absent is_ending (drop 1 h) none), first-take is_ending m p) (omega (arith, first-within is_ending p))
