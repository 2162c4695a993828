-- Laws of every way of cutting: its segments join to what they were cut from, and so it is legal, because each block takes a character or more, and at most 250;
-- and there are few of them, because two neighbours hold more than 250 together. A way is known by its next cut; what is left is cut the same way.
use Rattle.std.specs.Prelude.{if◌then◌else◌}
use mathlib.Core.Bool.{Bool, true, false, false≢true, and-eq-true_iff}
use mathlib.Core.List.{List, [], ◌∷◌, ◌++◌, flat_map, append-nil}
use mathlib.Core.Path.{◌≡◌, refl, sym, ap, ◌∙◌}
use Prim.Native.Nat.{ℕ, zero, suc, ◌+◌, ◌*◌, ◌/◌, ◌≤◌, ◌<◌, min}
use native.Mathlib.Nat.{not-suc-le-zero}
use native.Mathlib.Omega.{arith}
use borrow.Author.Tests.{le-leb, leb-true, leb-false, eq-eqb, ne_eqb}
use lib.Dec.{leb, eqb}
use lib.ListN.{length, take, drop, get_or, length-append, length-take, length-drop, take-append-drop}
use lib.Seq.{length-take-le, take_all}
use Rattle.line.specs.Character.{textual}
use Rattle.line.specs.Test.{all}
use Rattle.line.specs.Transaction.{Transaction, ends_in_cr}
use Rattle.line.proofs.AllLaws.{all_append}
use Rattle.line.proofs.ListLaws.{length_none}
use Rattle.line.proofs.TransactionLaws.{transaction-legal, legal-parts, ends-append}
use Rattle.block.specs.Block.{Segment, right, agrees}
use Rattle.block.specs.Segments.{segment, continues, Joins, last, more, LegalSegmentation}
use Rattle.block.specs.declared.frame.Ending.TheVariants.{Etx}
use Rattle.segmentation.specs.Segmentation.{inner_ending, ending_of, segments_by, behind}

-- a cut: a block takes 1 to 250 characters; and of what ends in CR it and the next take more than 250 together
pub record Cuts (cut : List ℕ → ℕ) : Type 0 where
  pub some : (t : List ℕ) → 1 ≤ cut t
  pub fits : (t : List ℕ) → cut t ≤ 250
  pub crowds : (t : List ℕ) → ends_in_cr t ≡ true → cut t < length t → 250 < cut t + min (length (drop (cut t) t)) (cut (drop (cut t) t))

-- where two lists joined are textual, each is
pub joined-text : (s t : List ℕ) → all textual (s ++ t) ≡ true → (all textual s ≡ true) × (all textual t ≡ true)
joined-text s t h = (and-eq-true_iff (all textual s) (all textual t)).0 (rw all_append at h)

-- the end of two lists joined is that of the second, where it is not empty
pub ends-behind : (s t : List ℕ) → 1 ≤ length t → ends_in_cr (s ++ t) ≡ ends_in_cr t
ends-behind s [] h = absurd (not-suc-le-zero h)
ends-behind s (c ∷ t) h = ends-append s c t

-- the ending of a block that is not the last is right for what stands before it, and the transaction goes on
inner-right : (info : List ℕ) → 1 ≤ length info → all textual info ≡ true → (right info (inner_ending info) ≡ true) × (continues (inner_ending info) ≡ true)
unfolding agrees
inner-right info some text = go (ends_in_cr info) refl
  where
    go : (b : Bool) → ends_in_cr info ≡ b → (right info (inner_ending info) ≡ true) × (continues (inner_ending info) ≡ true)
    go true e = (rw (e, e, text), rw e)
    go false e = (rw (e, e, text, le-leb 1 (length info) some), rw e)

-- neighbours among the segments hold more than 250 characters together
abbrev pub Crowded : List Segment → Type 0
Crowded [] = Unit {0}
Crowded (g ∷ []) = Unit {0}
Crowded (g ∷ h ∷ gs) = (250 < length g.info + length h.info) × Crowded (h ∷ gs)

-- so that half of them hold 251 each
pub crowded_few : (gs : List Segment) → Crowded gs → 251 * (length gs / 2) ≤ length (flat_map (λ g. g.info) gs)
unfolding flat_map
crowded_few [] c = omega arith
crowded_few (g ∷ []) c = omega arith
crowded_few (g ∷ h ∷ []) c = simp length-append (omega (arith, c.0))
crowded_few (g ∷ h ∷ i ∷ gs) c =
    let few = crowded_few (i ∷ gs) c.1.1 in
    let sizes = length-append g.info (h.info ++ flat_map (λ g. g.info) (i ∷ gs)) in
    let sizes' = length-append h.info (flat_map (λ g. g.info) (i ∷ gs)) in
    omega (arith, c.0)

-- ── A cut ──

module _ (cut : List ℕ → ℕ) where
  -- the segment of the next block
  abbrev pub next_segment : List ℕ → Segment
  next_segment t = if leb (length t) (cut t) then segment t Etx else segment (take (cut t) t) (inner_ending (take (cut t) t))

  -- all segments of what is left
  abbrev pub all_segments : List ℕ → List Segment
  all_segments t = segments_by cut (length t) t

  -- the next segment, by as many characters as there are
  pub next-is : (t : List ℕ) (n : ℕ) → n ≡ min (length t) (cut t) → next_segment t ≡ segment (take n t) (ending_of (eqb n (length t)) (take n t))
  next-is t n e = go (leb (length t) (cut t)) refl
    where
      go : (b : Bool) → leb (length t) (cut t) ≡ b → next_segment t ≡ segment (take n t) (ending_of (eqb n (length t)) (take n t))
      go true q =
          let all : n ≡ length t = omega (arith, leb-true (length t) (cut t) q) in
          rw (q, all, take_all (length t) t (omega arith), eq-eqb (length t) (length t) refl)
      go false q =
          let far = leb-false (length t) (cut t) q in
          let part : n ≡ cut t = omega arith in
          rw (q, part, ne_eqb (cut t) (length t) (λ x. omega arith))

module _ {cut : List ℕ → ℕ} (cuts : Cuts cut) where
  -- ── Cut by cut ──

  -- more blocks than there are characters are not asked for
  enough : (k j : ℕ) (t : List ℕ) → 1 ≤ length t → length t ≤ k → length t ≤ j → segments_by cut k t ≡ segments_by cut j t
  unfolding segments_by
  enough zero j t some h l = absurd (omega arith)
  enough (suc k) zero t some h l = absurd (omega arith)
  enough (suc k) (suc j) t some h l = go (leb (length t) (cut t)) refl (enough k j (drop (cut t) t))
    where
      left : List ℕ
      left = drop (cut t) t

      go : (b : Bool) → leb (length t) (cut t) ≡ b → (1 ≤ length left → length left ≤ k → length left ≤ j → segments_by cut k left ≡ segments_by cut j left) →
          segments_by cut (suc k) t ≡ segments_by cut (suc j) t
      go true e further = rw e
      go false e further =
          let far = leb-false (length t) (cut t) e in
          let rest = length-drop (cut t) t in
          let one = cuts.some t in
          rw (e, further (omega arith) (omega arith) (omega arith))

  -- the next segment, and those of what is left behind it
  pub way_next : (t : List ℕ) → 1 ≤ length t → all_segments cut t ≡ next_segment cut t ∷ all_segments cut (drop (cut t) t)
  unfolding segments_by
  way_next [] some = elim some [ ]
  way_next (c ∷ t) some = go (leb (length (c ∷ t)) (cut (c ∷ t))) refl
    where
      left : List ℕ
      left = drop (cut (c ∷ t)) (c ∷ t)

      go : (b : Bool) → leb (length (c ∷ t)) (cut (c ∷ t)) ≡ b → all_segments cut (c ∷ t) ≡ next_segment cut (c ∷ t) ∷ all_segments cut left
      go true e =
          let short = leb-true (length (c ∷ t)) (cut (c ∷ t)) e in
          let none = length_none left (omega (arith, length-drop (cut (c ∷ t)) (c ∷ t))) in
          rw (e, none)
      go false e =
          let far = leb-false (length (c ∷ t)) (cut (c ∷ t)) e in
          let rest = length-drop (cut (c ∷ t)) (c ∷ t) in
          let one = cuts.some (c ∷ t) in
          rw (e, enough (length t) (length left) left (omega arith) (omega arith) (omega arith))

  -- behind the first block, what is left behind i more is what was left behind i + 1
  behind-next : (i : ℕ) (t : List ℕ) → behind cut (suc i) t ≡ behind cut i (drop (cut t) t)
  unfolding behind
  behind-next zero t = refl
  behind-next (suc i) t = rw (behind-next i t)

  -- what has a segment has a character
  segments_of_some : (t : List ℕ) → 1 ≤ length (all_segments cut t) → 1 ≤ length t
  unfolding segments_by
  segments_of_some [] h = absurd (omega arith)
  segments_of_some (c ∷ t) h = omega arith

  -- the i-th segment is the next of what is left behind those before it, and something is left
  pub way_at : (i : ℕ) (t : List ℕ) → i < length (all_segments cut t) →
      (1 ≤ length (behind cut i t)) × (get_or (all_segments cut t) i (segment [] Etx) ≡ next_segment cut (behind cut i t))
  unfolding behind
  way_at zero t h =
      let some = segments_of_some t h in
      (some, rw (way_next t some))
  way_at (suc i) t h =
      let whole = way_next t (segments_of_some t (omega arith)) in
      let count = ap length whole in
      let (some, at) = way_at i (drop (cut t) t) (omega arith) in
      rw (behind-next i t, whole) (some, at)

  -- the next segment has at most 250 characters
  next_fits : (t : List ℕ) → length (next_segment cut t).info ≤ 250
  next_fits t = rw (ap (λ g. length g.info) (next-is cut t (min (length t) (cut t)) refl), length-take) (omega (arith, cuts.fits t))

  -- so that a block has at most 256
  pub way_short : (i : ℕ) (t : List ℕ) → i < length (all_segments cut t) → let g = get_or (all_segments cut t) i (segment [] Etx) in length g.info + 6 ≤ 256
  way_short i t h = rw (way_at i t h).1 (omega (arith, next_fits (behind cut i t)))

  -- ── All blocks ──

  -- the segments hold every character, in order
  pub way_whole : (k : ℕ) (t : List ℕ) → length t ≤ k → flat_map (λ g. g.info) (segments_by cut k t) ≡ t
  unfolding segments_by flat_map
  way_whole zero [] h = refl
  way_whole zero (c ∷ t) h = absurd (omega arith)
  way_whole (suc k) t h = go (leb (length t) (cut t)) refl (way_whole k (drop (cut t) t))
    where
      go : (b : Bool) → leb (length t) (cut t) ≡ b → (length (drop (cut t) t) ≤ k → flat_map (λ g. g.info) (segments_by cut k (drop (cut t) t)) ≡ drop (cut t) t) →
          flat_map (λ g. g.info) (segments_by cut (suc k) t) ≡ t
      go true e further = rw e (append-nil t)
      go false e further =
          let far = leb-false (length t) (cut t) e in
          let left : length (drop (cut t) t) ≤ k = omega (arith, length-drop (cut t) t, cuts.some t) in
          rw (e, further left) (take-append-drop (cut t) t)

  -- the segments of what is a transaction by its characters and its end join to it
  pub way_joins : (k : ℕ) (t : List ℕ) → length t ≤ k → all textual t ≡ true → ends_in_cr t ≡ true → Joins (segments_by cut k t) t
  unfolding segments_by agrees ends_in_cr
  way_joins zero [] h text end = absurd (false≢true end)
  way_joins zero (c ∷ t) h text end = absurd (omega arith)
  way_joins (suc k) t h text end = go (leb (length t) (cut t)) refl (way_joins k (drop (cut t) t))
    where
      left : List ℕ
      left = drop (cut t) t

      go : (b : Bool) → leb (length t) (cut t) ≡ b → (length left ≤ k → all textual left ≡ true → ends_in_cr left ≡ true → Joins (segments_by cut k left) left) →
          Joins (segments_by cut (suc k) t) t
      go true e further = rw e (last {info = t} (omega (arith, leb-true (length t) (cut t) e, cuts.fits t)) (rw (text, end)))
      go false e further =
          let n = cut t in
          let info = take n t in
          let far = leb-false (length t) n e in
          let some = cuts.some t in
          let fits = cuts.fits t in
          let whole = take-append-drop n t in
          let (info-text, left-text) = joined-text info left (rw whole text) in
          let info-length : length info ≡ n = length-take-le n t (omega arith) in
          let left-length = length-drop n t in
          let left_end : ends_in_cr left ≡ true = sym (ends-behind info left (omega arith)) ∙ rw whole end in
          let (info-right, goes_on_lem) = inner-right info (omega arith) info-text in
          let left-joins = further (omega arith) left-text left_end in
          rw e (rw whole at (more {info = info} {e = inner_ending info} (omega arith) info-right goes_on_lem left-joins))

  -- every way of cutting is legal
  pub way_legal : (t : List ℕ) → Transaction t → LegalSegmentation (segments_by cut (length t) t) t
  way_legal t r =
      let (_, text, end) = legal-parts t (transaction-legal r) in
      record { transaction = r; joins = way_joins (length t) t (omega arith) text end }

  -- ── How many blocks ──

  -- of what ends in CR, two neighbours hold more than 250 characters together
  pub way_crowded : (k : ℕ) (t : List ℕ) → length t ≤ k → ends_in_cr t ≡ true → Crowded (segments_by cut k t)
  unfolding segments_by
  way_crowded zero t h end = tt
  way_crowded (suc k) t h end = go (leb (length t) (cut t)) refl (way_crowded k (drop (cut t) t))
    where
      left : List ℕ
      left = drop (cut t) t

      -- the first of two neighbours and those behind it
      behind-first : (j : ℕ) → cut t < length t → length left ≤ j → Crowded (segments_by cut j left) → Crowded (segment (take (cut t) t) (inner_ending (take (cut t) t)) ∷ segments_by cut j left)
      behind-first zero far few c = tt
      behind-first (suc j) far few c =
          let first : length (take (cut t) t) ≡ cut t = length-take-le (cut t) t (omega arith) in
          let crowd = cuts.crowds t end far in
          choose (leb (length left) (cut left)) refl c first crowd
        where
          choose : (b : Bool) → leb (length left) (cut left) ≡ b → Crowded (segments_by cut (suc j) left) → length (take (cut t) t) ≡ cut t → 250 < cut t + min (length left) (cut left) →
              Crowded (segment (take (cut t) t) (inner_ending (take (cut t) t)) ∷ segments_by cut (suc j) left)
          choose true e c first crowd = rw e (omega (arith, leb-true (length left) (cut left) e), tt)
          choose false e c first crowd =
              let far = leb-false (length left) (cut left) e in
              let second : length (take (cut left) left) ≡ cut left = length-take-le (cut left) left (omega arith) in
              rw e (omega arith, rw e at c)

      go : (b : Bool) → leb (length t) (cut t) ≡ b → (length left ≤ k → ends_in_cr left ≡ true → Crowded (segments_by cut k left)) → Crowded (segments_by cut (suc k) t)
      go true e further = rw e tt
      go false e further =
          let far = leb-false (length t) (cut t) e in
          let rest = length-drop (cut t) t in
          let some = cuts.some t in
          let left_end : ends_in_cr left ≡ true = sym (ends-behind (take (cut t) t) left (omega arith)) ∙ rw (take-append-drop (cut t) t) end in
          rw e (behind-first k (omega arith) (omega arith) (further (omega arith) left_end))
