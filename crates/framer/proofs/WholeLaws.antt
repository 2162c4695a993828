-- Laws of whole strings: a string is whole exactly if it begins with STX or EOT and is as long as it is to be. So every string that is handed over is whole,
-- and a whole string that meets nothing held is handed over as it is, whatever comes behind it.
use Rattle.std.specs.Prelude.{if◌then◌else◌}
use mathlib.Core.Bool.{Bool, true, false, not, or-true, or-false}
use mathlib.Core.List.{List, [], ◌∷◌, ◌++◌}
use Rattle.std.specs.Prelude.{None, Some}
use mathlib.Core.Path.{◌≡◌, refl, sym, ap, subst, ◌∙◌}
use Prim.Native.Nat.{ℕ, suc, ◌+◌, ◌-◌, ◌≤◌, ◌<◌, min}
use native.Mathlib.Omega.{arith}
use borrow.Author.Tests.{le-leb, leb-true, leb-false, eqb-true}
use lib.Dec.{leb}
use lib.ListN.{length, get_or, take, drop, length-append, length-drop, take-append-drop}
use lib.Seq.{length-take-le, split_at, take-take, take_at}
use Rattle.line.specs.Character.{STX, EOT}
use Rattle.line.specs.Parity.{seven_bits}
use Rattle.line.proofs.AllLaws.{all_take}
use Rattle.line.specs.Test.{before_first}
use Rattle.framer.specs.Framing.{is, is_opening, is_ending, size, fed, unfinished, Whole, goodbye, block, full}
use Rattle.line.proofs.FirstLaws.{first_passes, first-before, first-behind}
use Rattle.framer.proofs.FramingLaws.{size_bounds, size_grows, size-kept, size-longer, fed_from_lem, opens-first, held-opens, held-begun, Beginning, nowhere, somewhere, beginning, fed_skipped}

-- STX is not EOT
stx_eot : (s : ℕ) → is STX s ≡ true → is EOT s ≡ false
stx_eot s e = rw (eqb-true (seven_bits s) STX e)

-- what begins with STX or EOT, and not with EOT, begins with STX
opens_stx : (b : ℕ) → is_opening b ≡ true → is EOT b ≡ false → is STX b ≡ true
opens_stx b opens e = sym (or-false (is STX b)) ∙ rw e at opens

-- begins with STX or EOT, and is as long as it is to be
pub record Exact (s : List ℕ) : Type 0 where
  pub first : ℕ
  pub rest : List ℕ
  pub whole : s ≡ first ∷ rest
  pub opens : is_opening first ≡ true
  pub long : size (first ∷ rest) ≡ length (first ∷ rest)

-- a whole string is
pub whole_exact : {s : List ℕ} → Whole s → Exact s
unfolding size before_first
whole_exact (goodbye e c is-eot) = record { first = e; rest = c ∷ []; whole = refl; opens = rw is-eot (or-true (is STX e)); long = rw is-eot }
whole_exact (block s e before behind is-stx inner ending four short) =
    let place : before_first is_ending (before ++ e ∷ behind) ≡ length before + 0 = first-behind is_ending before (e ∷ behind) inner ∙ rw ending in
    let count = length-append before (e ∷ behind) in
    record { first = s; rest = before ++ e ∷ behind; whole = refl; opens = rw is-stx; long = rw (stx_eot s is-stx, place) (omega arith) }
whole_exact (full s rest is-stx count late) =
    let front : length (take 251 rest) ≡ 251 = length-take-le 251 rest (omega arith) in
    let place : before_first is_ending rest ≡ length (take 251 rest) + before_first is_ending (drop 251 rest) = rw (take-append-drop 251 rest) at (first-behind is_ending (take 251 rest) (drop 251 rest) late) in
    record { first = s; rest = rest; whole = refl; opens = rw is-stx; long = rw (stx_eot s is-stx) (omega arith) }

-- from EOT, two characters
two-whole : (b : ℕ) (bs : List ℕ) → is EOT b ≡ true → 2 ≡ length (b ∷ bs) → Whole (b ∷ bs)
two-whole b [] e count = absurd (omega arith)
two-whole b (c ∷ []) e count = goodbye b c e
two-whole b (c ∷ d ∷ r) e count = absurd (omega arith)

-- from STX, by the first ending
stx_whole : (b : ℕ) (bs : List ℕ) → is STX b ≡ true → min 256 (before_first is_ending bs + 6) ≡ length (b ∷ bs) → Whole (b ∷ bs)
stx_whole b bs e count = go (leb (before_first is_ending bs) 250) refl
  where
    go : (t : Bool) → leb (before_first is_ending bs) 250 ≡ t → Whole (b ∷ bs)
    go true early =
        let k = before_first is_ending bs in
        let short = leb-true k 250 early in
        let inside : k < length bs = omega arith in
        let size = length-take-le k bs (omega arith) in
        let four : length (drop (suc k) bs) ≡ 4 = length-drop (suc k) bs ∙ omega arith in
        subst (λ x. Whole (b ∷ x)) (sym (split_at bs k 0 inside))
        (block b (get_or bs k 0) (take k bs) (drop (suc k) bs) e (first-before is_ending bs) (first_passes is_ending bs inside) four (omega arith))
    go false late =
        let k = before_first is_ending bs in
        let long = leb-false k 250 late in
        full b bs e (omega arith) (rw (take-take 251 k bs (omega arith)) at (all_take (λ x. not (is_ending x)) 251 (take k bs) (first-before is_ending bs)))

-- and nothing else is whole
pub exact_whole : (b : ℕ) (bs : List ℕ) → is_opening b ≡ true → size (b ∷ bs) ≡ length (b ∷ bs) → Whole (b ∷ bs)
unfolding size
exact_whole b bs opens long = go (is EOT b) refl long
  where
    go : (t : Bool) → is EOT b ≡ t → (if t then 2 else min 256 (before_first is_ending bs + 6)) ≡ length (b ∷ bs) → Whole (b ∷ bs)
    go true e long = two-whole b bs e long
    go false e long = stx_whole b bs (opens_stx b opens e) long

-- the bytes of a string, up to where it is to end, are whole
pub taken-whole : (b : ℕ) (bs : List ℕ) → is_opening b ≡ true → size (b ∷ bs) ≤ length (b ∷ bs) → Whole (take (size (b ∷ bs)) (b ∷ bs))
taken-whole b bs opens ended = go (size (b ∷ bs) - 1) (omega (arith, size_bounds (b ∷ bs)))
  where
    go : (n : ℕ) → size (b ∷ bs) ≡ suc n → Whole (take (size (b ∷ bs)) (b ∷ bs))
    go n e =
        let u = take n bs in
        let whole : b ∷ bs ≡ b ∷ u ++ drop n bs = ap (λ x. b ∷ x) (sym (take-append-drop n bs)) in
        let count : length u ≡ n = length-take-le n bs (omega arith) in
        let grows : size (b ∷ u) ≤ size (b ∷ bs) = rw whole (size_grows b u (drop n bs)) in
        let kept : size (b ∷ bs) ≡ size (b ∷ u) = rw whole (size-kept b u (drop n bs) (omega arith)) in
        rw e (exact_whole b u opens (omega arith))

-- a whole string that meets nothing held is handed over, whatever comes behind it
pub whole-fed : {s : List ℕ} → Whole s → (q : List ℕ) → fed [] (s ++ q) ≡ record { string = Some s; used = length s; held = [] }
whole-fed {s} w q =
    let x = whole_exact w in
    let b = x.first in
    let bs = x.rest in
    let kept : size (b ∷ bs ++ q) ≡ length (b ∷ bs) = size-kept b bs q (omega (arith, x.long)) ∙ x.long in
    let now = fed_from_lem [] (b ∷ bs ++ q) 0 (b ∷ bs ++ q) (opens-first b (bs ++ q) x.opens) refl in
    let within = le-leb (length (b ∷ bs)) (length (b ∷ bs ++ q)) (omega (arith, length-append bs q)) in
    let used : 0 + length (b ∷ bs) - 0 ≡ length (b ∷ bs) = omega arith in
    rw x.whole (now ∙ rw (kept, within, take_at (b ∷ bs) q (length (b ∷ bs)) refl, used))

-- ── What feeding comes to ──

-- no string yet, all bytes used and what is left held; or a whole string, some of the bytes used and nothing held
pub data Comes (h p : List ℕ) : Type 0 where
  waiting : (held : List ℕ) → fed h p ≡ record { string = None; used = length p; held = held } → unfinished held ≡ true → Comes h p
  handing : (s : List ℕ) (used : ℕ) → fed h p ≡ record { string = Some s; used = used; held = [] } → Whole s → 1 ≤ used → used ≤ length p → Comes h p

-- a string that was to be longer than what was held takes a byte at least
longer-held : (h p : List ℕ) (k b : ℕ) (bs : List ℕ) → unfinished h ≡ true → before_first is_opening (h ++ p) ≡ k → drop k (h ++ p) ≡ b ∷ bs → length h < k + size (b ∷ bs)
longer-held [] p k b bs u place left = omega (arith, size_bounds (b ∷ bs))
longer-held (a ∷ xs) p k b bs u place left =
    let (opens, short) = held-opens a xs u in
    let first : k ≡ 0 = sym place ∙ opens-first a (xs ++ p) opens in
    let same : a ∷ xs ++ p ≡ b ∷ bs = rw first at left in
    rw (← same) (omega (arith, size-longer a xs p short))

-- one of the two
pub fed-comes : (h p : List ℕ) → unfinished h ≡ true → Comes h p
unfolding unfinished
fed-comes h p u = go (beginning h p u)
  where
    begun : (k b : ℕ) (bs : List ℕ) → before_first is_opening (h ++ p) ≡ k → k < length (h ++ p) → drop k (h ++ p) ≡ b ∷ bs → is_opening b ≡ true →
        (t : Bool) → leb (size (b ∷ bs)) (length (b ∷ bs)) ≡ t → Comes h p
    begun k b bs place inside left opens true e =
        let ended = leb-true (size (b ∷ bs)) (length (b ∷ bs)) e in
        let more = longer-held h p k b bs u place left in
        let count = ap length left in
        handing (take (size (b ∷ bs)) (b ∷ bs)) (k + size (b ∷ bs) - length h) (fed_from_lem h p k (b ∷ bs) place left ∙ rw e) (taken-whole b bs opens ended)
        (omega arith) (omega (arith, length-drop k (h ++ p), length-append h p))
    begun k b bs place inside left opens false e =
        waiting (b ∷ bs) (fed_from_lem h p k (b ∷ bs) place left ∙ rw e) (held-begun b bs opens (leb-false (size (b ∷ bs)) (length (b ∷ bs)) e))

    go : Beginning h p → Comes h p
    go (nowhere none-held none-opens) = waiting [] (rw none-held (fed_skipped p none-opens)) refl
    go (somewhere k b bs place inside left opens) = begun k b bs place inside left opens (leb (size (b ∷ bs)) (length (b ∷ bs))) refl

-- every string that is handed over is whole
pub fed-whole : (h p s : List ℕ) → unfinished h ≡ true → (fed h p).string ≡ Some s → Whole s
fed-whole h p s u e = go (fed-comes h p u)
  where
    go : Comes h p → Whole s
    go (waiting held is going) = let z : ◌≡◌ {A = ℕ} 0 1 = cc in absurd (omega arith)
    go (handing x used is whole least most) = let same : x ≡ s = cc in subst Whole same whole
