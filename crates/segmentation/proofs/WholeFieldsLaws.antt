-- Laws of keeping fields whole: a block takes the most characters, up to 250, behind which a field is complete. So it is a way of cutting;
-- it cuts what has no field too long exactly as the paper says; and no other list of blocks is cut so.
use Rattle.std.specs.Prelude.{if◌then◌else◌}
use mathlib.Core.Bool.{Bool, true, false, false≢true}
use mathlib.Core.List.{List, [], ◌∷◌}
use mathlib.Core.Logic.{◌⊎◌, inl, inr}
use mathlib.Core.Path.{◌≡◌, refl, sym, ◌∙◌}
use Prim.Native.Nat.{ℕ, zero, suc, ◌+◌, ◌-◌, ◌≤◌, ◌<◌, min}
use native.Mathlib.Numerals.{sub-one}
use native.Mathlib.Omega.{arith}
use borrow.Author.Tests.{leb-true, leb-false, eqb-true, eqb-false}
use lib.Dec.{eqb, leb}
use lib.ListN.{length, take, drop, length-take, length-drop, take-append-drop}
use lib.Seq.{take_all, take-add}
use Rattle.line.specs.Character.{CR}
use Rattle.line.specs.Transaction.{ends_in_cr}
use Rattle.line.proofs.ListLaws.{take_min}
use Rattle.line.proofs.TransactionLaws.{ends-joined}
use Rattle.segmentation.specs.Segmentation.{complete, whole_fields, fields_within}
use Rattle.segmentation.proofs.WayLaws.{Cuts, ends-behind}

-- ── The most behind which a field is complete ──

-- at most so many
pub complete-within : (n : ℕ) (t : List ℕ) → complete n t ≤ n
unfolding complete
complete-within zero t = omega arith
complete-within (suc n) t = go (ends_in_cr (take (suc n) t)) refl (complete-within n t)
  where
    go : (b : Bool) → ends_in_cr (take (suc n) t) ≡ b → complete n t ≤ n → complete (suc n) t ≤ suc n
    go true e h = rw e (omega arith)
    go false e h = rw e (omega arith)

-- a field is complete behind them, where there are any
pub complete-ends : (n : ℕ) (t : List ℕ) → 1 ≤ complete n t → ends_in_cr (take (complete n t) t) ≡ true
unfolding complete
complete-ends zero t h = absurd (omega arith)
complete-ends (suc n) t h = go (ends_in_cr (take (suc n) t)) refl (complete-ends n t) h
  where
    go : (b : Bool) → ends_in_cr (take (suc n) t) ≡ b → (1 ≤ complete n t → ends_in_cr (take (complete n t) t) ≡ true) →
        1 ≤ complete (suc n) t → ends_in_cr (take (complete (suc n) t) t) ≡ true
    go true e further h = rw e e
    go false e further h = rw e (further (rw e at h))

-- and behind no more of them
pub complete_most : (n m : ℕ) (t : List ℕ) → m ≤ n → ends_in_cr (take m t) ≡ true → m ≤ complete n t
unfolding complete
complete_most zero m t h e = h
complete_most (suc n) m t h e = go (ends_in_cr (take (suc n) t)) refl (complete_most n m t)
  where
    go : (b : Bool) → ends_in_cr (take (suc n) t) ≡ b → (m ≤ n → ends_in_cr (take m t) ≡ true → m ≤ complete n t) → m ≤ complete (suc n) t
    go true q further = rw q h
    go false q further = rw q (further (below (eqb m (suc n)) refl) e)
      where
        below : (b : Bool) → eqb m (suc n) ≡ b → m ≤ n
        below true r = let same = eqb-true m (suc n) r in absurd (false≢true (sym q ∙ rw (← same) e))
        below false r = omega (arith, eqb-false m (suc n) r)

-- so they are these, where a field is complete behind so many and behind no more
pub complete-is : (n m : ℕ) (t : List ℕ) → m ≤ n → ends_in_cr (take m t) ≡ true → ((k : ℕ) → m < k → k ≤ n → ends_in_cr (take k t) ≡ false) → complete n t ≡ m
complete-is n m t h e none = go (leb (complete n t) m) refl
  where
    go : (b : Bool) → leb (complete n t) m ≡ b → complete n t ≡ m
    go true q = omega (arith, leb-true (complete n t) m q, complete_most n m t h e)
    go false q =
        let past = leb-false (complete n t) m q in
        absurd (false≢true (sym (none (complete n t) past (complete-within n t)) ∙ complete-ends n t (omega arith)))

-- the same of what is shorter, as far as it goes
pub complete_past : (n : ℕ) (t : List ℕ) → length t ≤ n → min (length t) (complete n t) ≡ complete (length t) t
complete_past n t h =
    let more = at_least (complete (length t) t) refl in
    let less = at_most (complete n t) refl in
    omega (arith, complete-within (length t) t)
  where
    at_least : (k : ℕ) → complete (length t) t ≡ k → k ≤ complete n t
    at_least zero e = omega arith
    at_least (suc k) e =
        let within = complete-within (length t) t in
        complete_most n (suc k) t (omega arith) (rw e at (complete-ends (length t) t (omega arith)))

    at_most : (k : ℕ) → complete n t ≡ k → min k (length t) ≤ complete (length t) t
    at_most zero e = omega arith
    at_most (suc k) e = complete_most (length t) (min (suc k) (length t)) t (omega arith) (rw (take_min (suc k) t) (rw e at (complete-ends n t (omega arith))))

-- looked for from the end, within so many as there are
pub complete-starts : (t : List ℕ) (n : ℕ) → n ≡ min (length t) 250 → min (length t) (complete 250 t) ≡ complete n t
complete-starts t n e = go (leb (length t) 250) refl
  where
    go : (b : Bool) → leb (length t) 250 ≡ b → min (length t) (complete 250 t) ≡ complete n t
    go true q =
        let short = leb-true (length t) 250 q in
        let all : n ≡ length t = omega arith in
        rw all (complete_past 250 t short)
    go false q =
        let far = leb-false (length t) 250 q in
        let full : n ≡ 250 = omega arith in
        let within = complete-within 250 t in
        rw full (omega arith)

-- at a place where a field is complete, they are so many
pub complete-here : (n : ℕ) (t : List ℕ) → 1 ≤ n → ends_in_cr (take n t) ≡ true → complete n t ≡ n
unfolding complete
complete-here zero t h e = absurd (omega arith)
complete-here (suc n) t h e = rw e

-- at any other, one character less is looked at
pub complete-further : (n : ℕ) (t : List ℕ) → 1 ≤ n → ends_in_cr (take n t) ≡ false → complete n t ≡ complete (n - 1) t
unfolding complete
complete-further zero t h e = absurd (omega arith)
complete-further (suc n) t h e = rw (e, sub-one)

-- ── A way of cutting ──

-- a block takes 250 characters where no field is complete in them, else as many as are complete
abbrev pub Takes : List ℕ → Type 0
Takes t = ((complete 250 t ≡ 0) × (whole_fields t ≡ 250)) ⊎ ((1 ≤ complete 250 t) × (whole_fields t ≡ complete 250 t))

pub whole_takes : (t : List ℕ) → Takes t
unfolding whole_fields
whole_takes t = go (eqb (complete 250 t) 0) refl
  where
    go : (b : Bool) → eqb (complete 250 t) 0 ≡ b → Takes t
    go true e = inl (eqb-true (complete 250 t) 0 e, rw e)
    go false e = inr (omega (arith, eqb-false (complete 250 t) 0 e), rw e)

-- it takes as many as are complete, where any are
pub whole_is : (t : List ℕ) → 1 ≤ complete 250 t → whole_fields t ≡ complete 250 t
whole_is t some = go (whole_takes t)
  where
    go : Takes t → whole_fields t ≡ complete 250 t
    go (inl (none, _)) = absurd (omega arith)
    go (inr (_, e)) = e

-- a block takes a character or more
whole-some : (t : List ℕ) → 1 ≤ whole_fields t
whole-some t = go (whole_takes t)
  where
    go : Takes t → 1 ≤ whole_fields t
    go (inl (_, e)) = omega arith
    go (inr (some, e)) = omega arith

-- and as many at least as any behind which a field is complete
pub whole_most : (t : List ℕ) (m : ℕ) → m ≤ 250 → ends_in_cr (take m t) ≡ true → m ≤ whole_fields t
whole_most t m h e = go (whole_takes t)
  where
    go : Takes t → m ≤ whole_fields t
    go (inl (_, q)) = omega arith
    go (inr (_, q)) = omega (arith, complete_most 250 m t h e)

-- what it takes of what ends in CR ends in CR, unless it is 250
whole-ends : (t : List ℕ) → ends_in_cr t ≡ true → (whole_fields t ≡ 250) ⊎ (ends_in_cr (take (min (length t) (whole_fields t)) t) ≡ true)
whole-ends t end = go (whole_takes t)
  where
    go : Takes t →
        (whole_fields t ≡ 250) ⊎ (ends_in_cr (take (min (length t) (whole_fields t)) t) ≡ true)
    go (inl (_, e)) = inl e
    go (inr (some, e)) =
        let part : min (length t) (whole_fields t) ≡ min (complete 250 t) (length t) = omega arith in
        inr (rw (part, take_min (complete 250 t) t) (complete-ends 250 t some))

-- of what ends in CR, it and the next take more than 250: else the fields of the next would have been taken too
whole-crowds : (t : List ℕ) → ends_in_cr t ≡ true → whole_fields t < length t →
    250 < whole_fields t + min (length (drop (whole_fields t) t)) (whole_fields (drop (whole_fields t) t))
whole-crowds t end far = go (whole_takes t)
  where
    left : List ℕ
    left = drop (whole_fields t) t

    next : ℕ
    next = min (length left) (whole_fields left)

    left_end : ends_in_cr left ≡ true
    left_end = sym (ends-behind (take (whole_fields t) t) left (omega (arith, length-drop (whole_fields t) t))) ∙ rw (take-append-drop (whole_fields t) t) end

    -- the next, where it fits behind, ends in CR
    next-ends : 1 ≤ whole_fields t → whole_fields t + next ≤ 250 → (whole_fields left ≡ 250) ⊎ (ends_in_cr (take next left) ≡ true) → ends_in_cr (take next left) ≡ true
    next-ends some few (inl e) = rw (take_all next left (omega arith)) left_end
    next-ends some few (inr e) = e

    together : (b : Bool) → leb (whole_fields t + next) 250 ≡ b → whole_fields t ≡ complete 250 t → 250 < whole_fields t + next
    together true q e =
        let few = leb-true (whole_fields t + next) 250 q in
        let ends = ends-joined (take (whole_fields t) t) (take next left) (next-ends (whole-some t) few (whole-ends left left_end)) in
        let most = complete_most 250 (whole_fields t + next) t few (rw (take-add (whole_fields t) next t) ends) in
        absurd (omega (arith, length-drop (whole_fields t) t, whole-some left))
    together false q e = leb-false (whole_fields t + next) 250 q

    go : Takes t → 250 < whole_fields t + next
    go (inl (_, e)) = omega (arith, length-drop (whole_fields t) t, whole-some left)
    go (inr (_, e)) = together (leb (whole_fields t + next) 250) refl e

-- keeping fields whole is a way of cutting
pub whole_cuts : Cuts whole_fields
whole_cuts = record { some = whole-some; fits = λ t. whole-within t (whole_takes t); crowds = whole-crowds }
  where
    whole-within : (t : List ℕ) → Takes t → whole_fields t ≤ 250
    whole-within t (inl (_, e)) = omega arith
    whole-within t (inr (_, e)) = omega (arith, complete-within 250 t)

-- ── Fields that are not too long ──

-- what is short enough has no field too long
pub within-short : (left : ℕ) (t : List ℕ) → left ≤ 250 → length t ≤ left → fields_within left t ≡ true
unfolding fields_within
within-short left [] h l = refl
within-short zero (c ∷ t) h l = absurd (omega arith)
within-short (suc left) (c ∷ t) h l = go (eqb c CR) (within-short 250 t (omega arith)) (within-short left t (omega arith))
  where
    go : (b : Bool) → (length t ≤ 250 → fields_within 250 t ≡ true) → (length t ≤ left → fields_within left t ≡ true) → fields_within (if b then 250 else left) t ≡ true
    go true new same = new (omega arith)
    go false new same = same (omega arith)

-- behind a complete field, the rest decides
pub within-behind : (n left : ℕ) (t : List ℕ) → n ≤ left → left ≤ 250 → ends_in_cr (take n t) ≡ true → fields_within left t ≡ fields_within 250 (drop n t)
unfolding fields_within ends_in_cr
within-behind zero left t h l e = absurd (false≢true e)
within-behind (suc n) left [] h l e = absurd (false≢true e)
within-behind (suc n) zero (c ∷ t) h l e = absurd (omega arith)
within-behind (suc zero) (suc left) (c ∷ t) h l e = rw e
within-behind (suc (suc n)) (suc left) (c ∷ []) h l e = refl
within-behind (suc (suc n)) (suc left) (c ∷ d ∷ t) h l e =
    go (eqb c CR) (within-behind (suc n) 250 (d ∷ t)) (within-behind (suc n) left (d ∷ t))
  where
    go : (b : Bool) → (suc n ≤ 250 → 250 ≤ 250 → ends_in_cr (take (suc n) (d ∷ t)) ≡ true → fields_within 250 (d ∷ t) ≡ fields_within 250 (drop (suc n) (d ∷ t))) →
        (suc n ≤ left → left ≤ 250 → ends_in_cr (take (suc n) (d ∷ t)) ≡ true → fields_within left (d ∷ t) ≡ fields_within 250 (drop (suc n) (d ∷ t))) →
        fields_within (if b then 250 else left) (d ∷ t) ≡ fields_within 250 (drop (suc n) (d ∷ t))
    go true new same = new (omega arith) (omega arith) e
    go false new same = same (omega arith) (omega arith) e

-- where none is complete in so many characters and there are more, one is too long
pub within-never : (left : ℕ) (t : List ℕ) → left < length t → ((k : ℕ) → 1 ≤ k → k ≤ left → ends_in_cr (take k t) ≡ false) → fields_within left t ≡ false
unfolding fields_within ends_in_cr
within-never left [] h none = absurd (omega arith)
within-never zero (c ∷ t) h none = refl
within-never (suc left) (c ∷ t) h none =
    rw (none 1 (omega arith) (omega arith)) (within-never left t (omega arith) λ k some few. sym (ends-behind (c ∷ []) (take k t) (omega (arith, length-take k t))) ∙ none (suc k) (omega arith) (omega arith))

-- where nothing is complete in 250 characters and there are more, a field is too long
pub never-complete : (t : List ℕ) → complete 250 t ≡ 0 → 250 < length t → fields_within 250 t ≡ false
never-complete t empty far = within-never 250 t far λ k some few. go k (ends_in_cr (take k t)) refl (complete_most 250 k t few) some
  where
    go : (k : ℕ) (b : Bool) → ends_in_cr (take k t) ≡ b → (ends_in_cr (take k t) ≡ true → k ≤ complete 250 t) → 1 ≤ k → ends_in_cr (take k t) ≡ false
    go k true e most some = absurd (omega (arith, most e))
    go k false e most some = e

-- ── As the code looks for them ──

-- of what is more than 250, the characters that are complete: with none, a field is too long; else the rest decides
pub within_turn : (t : List ℕ) (n : ℕ) → 250 < length t → n ≡ min (length t) (complete 250 t) →
    (n ≡ 0 → fields_within 250 t ≡ false) × ((n ≡ 0 → ⊥) → fields_within 250 t ≡ fields_within 250 (drop n t))
within_turn t n far e =
    let within = complete-within 250 t in
    let same : n ≡ complete 250 t = omega arith in (
      λ empty. never-complete t (omega arith) far,
      λ some. within-behind n 250 t (omega arith) (omega arith) (rw (← same) at (complete-ends 250 t (omega arith))),
    )

-- how many characters the next block takes, by those that are complete
pub whole_turn : (t : List ℕ) (n : ℕ) → n ≡ min (length t) (complete 250 t) →
    (n ≡ 0 → min (length t) 250 ≡ min (length t) (whole_fields t)) × ((n ≡ 0 → ⊥) → n ≡ min (length t) (whole_fields t))
whole_turn t n e = go (whole_takes t)
  where
    go : Takes t → (n ≡ 0 → min (length t) 250 ≡ min (length t) (whole_fields t)) × ((n ≡ 0 → ⊥) → n ≡ min (length t) (whole_fields t))
    go (inl (closed, q)) = (λ empty. omega arith, λ some. absurd (some (omega arith)))
    go (inr (taken, q)) = (λ empty. omega arith, λ some. omega arith)
