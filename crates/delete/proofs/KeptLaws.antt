-- What is kept of transactions, newest first: it is no more of them and no more bytes, and without the chosen ones it is what the
-- definitions say of the journal, oldest first.
use Rattle.std.specs.Prelude.{if◌then◌else◌}
use mathlib.Core.Bool.{Bool, true, false, not, ◌&&◌, ◌||◌, Bool-discrete, and-eq-true_iff}
use mathlib.Core.List.{List, [], ◌∷◌, ◌++◌, filter, filter-append, append-nil, reverse, reverse-cons, reverse-append, reverse-reverse, append_assoc}
use mathlib.Core.Logic.{ite}
use mathlib.Core.Path.{◌≡◌, refl, sym, ap, ◌∙◌}
use Prim.Native.Nat.{ℕ, zero, suc, ◌+◌, ◌-◌, ◌≤◌, ◌<◌}
use native.Mathlib.Omega.{arith}
use borrow.Author.Tests.{leb-true, leb-false, le-leb, eq-eqb, ne_eqb}
use lib.Dec.{leb, eqb, eqb-suc-suc}
use lib.ListN.{length, get_or, take, drop, length-append, length-reverse, take-append-drop}
use lib.Seq.{drop_at, drop-cons, length-take-le, take_at}
use Rattle.line.proofs.OutcomeLaws.{choice-not, passed}
use Rattle.line.specs.Answer.{Outcome, done, refused}
use Rattle.line.specs.Transaction.{legal}
use Rattle.admission.specs.Content.{is_for, any_for}
use Rattle.journal.proofs.RecordLaws.{records_length-snoc}
use Rattle.journal.proofs.WalkLaws.{legal-reverse}
use Rattle.journal.specs.Encoding.{all_legal, records_of, Journal}
use Rattle.delete.specs.Deletion.{without_newest, without_pager}
use Rattle.delete.specs.Inner.{is_chosen, kept_from, without}
use Rattle.delete.specs.declared.choice.Choice.{Choice}
use Rattle.delete.specs.declared.choice.Choice.TheVariants.{Newest, Pager, Nothing}

-- the bytes of the records of transactions that are given newest first
abbrev pub size_back : List (List ℕ) → ℕ
size_back rs = length (records_of (reverse rs))

-- one more is its transaction and two bytes
pub size_back_lem : (t : List ℕ) (rs : List (List ℕ)) → size_back (t ∷ rs) ≡ size_back rs + (length t + 2)
size_back_lem t rs = rw (reverse-cons t rs) (records_length-snoc (reverse rs) t)

-- what is kept is no more
pub kept_fewer : (choice : Choice) (rank : ℕ) (rs : List (List ℕ)) → length (kept_from choice rank rs) ≤ length rs
unfolding kept_from
kept_fewer choice rank [] = omega arith
kept_fewer choice rank (t ∷ rs) = go (is_chosen choice rank t) (kept_fewer choice (rank + 1) rs)
  where
    go : (b : Bool) → length (kept_from choice (rank + 1) rs) ≤ length rs → length (if b then kept_from choice (rank + 1) rs else t ∷ kept_from choice (rank + 1) rs) ≤ suc (length rs)
    go true h = omega arith
    go false h = omega arith

-- and takes no more bytes
pub kept_smaller : (choice : Choice) (rank : ℕ) (rs : List (List ℕ)) → size_back (kept_from choice rank rs) ≤ size_back rs
unfolding kept_from
kept_smaller choice rank [] = omega arith
kept_smaller choice rank (t ∷ rs) = rw (size_back_lem t rs) (go (is_chosen choice rank t) (kept_smaller choice (rank + 1) rs))
  where
    go : (b : Bool) → size_back (kept_from choice (rank + 1) rs) ≤ size_back rs → size_back (if b then kept_from choice (rank + 1) rs else t ∷ kept_from choice (rank + 1) rs) ≤ size_back rs + (length t + 2)
    go true h = omega arith
    go false h = rw (size_back_lem t (kept_from choice (rank + 1) rs)) (omega arith)

-- what is kept of legal transactions is legal
kept-legal : (choice : Choice) (rank : ℕ) (rs : List (List ℕ)) → all_legal rs ≡ true → all_legal (kept_from choice rank rs) ≡ true
unfolding kept_from all_legal
kept-legal choice rank [] h = refl
kept-legal choice rank (t ∷ rs) h =
    let (good, rest) = (and-eq-true_iff (legal t) (all_legal rs)).0 h in
    go (is_chosen choice rank t) good (kept-legal choice (rank + 1) rs rest)
  where
    go : (b : Bool) → legal t ≡ true → all_legal (kept_from choice (rank + 1) rs) ≡ true → all_legal (if b then kept_from choice (rank + 1) rs else t ∷ kept_from choice (rank + 1) rs) ≡ true
    go true good rest = rest
    go false good rest = rw (good, rest)

-- where as many are kept, all are
pub kept-all : (choice : Choice) (rank : ℕ) (rs : List (List ℕ)) → length (kept_from choice rank rs) ≡ length rs → kept_from choice rank rs ≡ rs
unfolding kept_from
kept-all choice rank [] h = refl
kept-all choice rank (t ∷ rs) h = go (is_chosen choice rank t) h (kept-all choice (rank + 1) rs)
  where
    older : List (List ℕ)
    older = kept_from choice (rank + 1) rs

    go : (b : Bool) → length (if b then older else t ∷ older) ≡ suc (length rs) → (length older ≡ length rs → older ≡ rs) → (if b then older else t ∷ older) ≡ t ∷ rs
    go true h same = absurd (omega (arith, kept_fewer choice (rank + 1) rs))
    go false h same = ap (λ us. t ∷ us) (same (omega arith))

-- the answer to a choice from transactions newest first: 9 where as many are kept
abbrev pub answered : Choice → List (List ℕ) → Outcome (List (List ℕ))
answered choice rs = if eqb (length (kept_from choice 1 rs)) (length rs) then refused 9 else done (reverse (kept_from choice 1 rs))

-- ── By rank ──

-- a rank that none of them has
newest_none : (n rank : ℕ) (rs : List (List ℕ)) → (rank ≤ n → n < rank + length rs → ⊥) → kept_from (Newest n) rank rs ≡ rs
unfolding kept_from
newest_none n rank [] h = refl
newest_none n rank (t ∷ rs) h =
    let other : eqb rank n ≡ false = ne_eqb rank n λ e. h (omega arith) (omega arith) in
    rw other (ap (λ us. t ∷ us) (newest_none n (rank + 1) rs λ low high. h (omega arith) (omega arith)))

-- the record of a rank is left out
newest_one : (n rank : ℕ) (us : List (List ℕ)) (t : List ℕ) (vs : List (List ℕ)) → n ≡ rank + length us → kept_from (Newest n) rank (us ++ t ∷ vs) ≡ us ++ vs
unfolding kept_from
newest_one n rank [] t vs e =
    let here : eqb rank n ≡ true = eq-eqb rank n (omega arith) in
    rw here (newest_none n (rank + 1) vs λ low high. omega arith)
newest_one n rank (u ∷ us) t vs e =
    let other : eqb rank n ≡ false = ne_eqb rank n λ same. omega arith in
    rw other (ap (λ ws. u ∷ ws) (newest_one n (rank + 1) us t vs (omega arith)))

-- a list cut at the member with so many behind it
pub cut_at : (us : List (List ℕ)) (t : List ℕ) (vs : List (List ℕ)) (n : ℕ) → n ≡ length us + 1 →
    let ts = reverse (us ++ t ∷ vs) in take (length ts - n) ts ++ drop (length ts - n + 1) ts ≡ reverse (us ++ vs)
cut_at us t vs n e =
    let front : List (List ℕ) = reverse vs ++ t ∷ [] in
    let turned : reverse (us ++ t ∷ vs) ≡ front ++ reverse us = reverse-append us (t ∷ vs) ∙ rw (reverse-cons t vs) in
    let long : length front ≡ length vs + 1 = length-append (reverse vs) (t ∷ []) ∙ rw length-reverse in
    let size : length (front ++ reverse us) ≡ length vs + 1 + length us = length-append front (reverse us) ∙ rw (long, length-reverse) in
    let at : length (front ++ reverse us) - n ≡ length vs = omega arith in
    let first : take (length vs) (front ++ reverse us) ≡ reverse vs = rw append_assoc (take_at (reverse vs) (t ∷ reverse us) (length vs) (length-reverse vs)) in
    rw (turned, at, first, drop_at front (reverse us) (length vs + 1) long, reverse-append)

-- there is none of that rank
newest_missed : (n : ℕ) (rs : List (List ℕ)) → (leb 1 n && leb n (length rs)) ≡ false → (1 ≤ n → n < 1 + length rs → ⊥) → without_newest n (reverse rs) ≡ answered (Newest n) rs
unfolding without_newest
newest_missed n rs test h = rw (length-reverse, test, newest_none n 1 rs h, eq-eqb (length rs) (length rs) refl)

-- there is one
newest_found : (n : ℕ) (us : List (List ℕ)) (t : List ℕ) (vs : List (List ℕ)) → n ≡ length us + 1 → without_newest n (reverse (us ++ t ∷ vs)) ≡ answered (Newest n) (us ++ t ∷ vs)
unfolding without_newest
newest_found n us t vs e =
    let ts : List (List ℕ) = us ++ t ∷ vs in
    let size : length ts ≡ length us + suc (length vs) = length-append us (t ∷ vs) in
    let fewer : eqb (length (us ++ vs)) (length ts) ≡ false = ne_eqb (length (us ++ vs)) (length ts) λ same. omega (arith, length-append us vs) in
    let inside : leb n (length (reverse ts)) ≡ true = le-leb n _ (rw length-reverse (omega arith)) in
    rw (le-leb 1 n (omega arith), inside, cut_at us t vs n e, newest_one n 1 us t vs (omega arith), fewer)

-- a list split at one of its members
pub split_at : (rs : List (List ℕ)) (k : ℕ) → k < length rs → rs ≡ take k rs ++ get_or rs k [] ∷ drop (suc k) rs
split_at rs k inside = sym (take-append-drop k rs) ∙ ap (λ vs. take k rs ++ vs) (drop-cons rs k [] inside)

-- the answer to a rank
newest_kept : (n : ℕ) (rs : List (List ℕ)) → without_newest n (reverse rs) ≡ answered (Newest n) rs
newest_kept zero rs = newest_missed 0 rs refl λ low high. omega arith
newest_kept (suc k) rs = go (leb (suc k) (length rs)) refl
  where
    go : (b : Bool) → leb (suc k) (length rs) ≡ b → without_newest (suc k) (reverse rs) ≡ answered (Newest (suc k)) rs
    go false h =
        let past = leb-false (suc k) (length rs) h in
        newest_missed (suc k) rs (rw (le-leb 1 (suc k) (omega arith), h)) λ low high. omega arith
    go true h =
        let inside : k < length rs = leb-true (suc k) (length rs) h in
        rw (← split_at rs k inside) at (newest_found (suc k) (take k rs) (get_or rs k []) (drop (suc k) rs) (omega (arith, length-take-le k rs (omega arith))))

-- ── By pager ──

-- the others than those for a pager number
abbrev pub others : ℕ → List (List ℕ) → List (List ℕ)
others m ts = filter (λ t. Bool-discrete (is_for m t) false) ts

-- they are what is kept
pager-others : (m rank : ℕ) (rs : List (List ℕ)) → kept_from (Pager m) rank rs ≡ others m rs
unfolding kept_from
pager-others m rank [] = refl
pager-others m rank (t ∷ rs) = go (is_for m t) (pager-others m (rank + 1) rs)
  where
    go : (b : Bool) → kept_from (Pager m) (rank + 1) rs ≡ others m rs →
        (if b then kept_from (Pager m) (rank + 1) rs else t ∷ kept_from (Pager m) (rank + 1) rs) ≡ ite {C = List (List ℕ)} (Bool-discrete b false) (t ∷ others m rs) (others m rs)
    go true h = h
    go false h = ap (λ us. t ∷ us) h

-- the other way round too
pub others-reverse : (m : ℕ) (rs : List (List ℕ)) → others m (reverse rs) ≡ reverse (others m rs)
others-reverse m [] = refl
others-reverse m (t ∷ rs) = rw (reverse-cons t rs, filter-append {p = λ u. is_for m u ≡ false} (λ u. Bool-discrete (is_for m u) false) (reverse rs) (t ∷ []), others-reverse m rs) (go (is_for m t))
  where
    go : (b : Bool) → reverse (others m rs) ++ ite {C = List (List ℕ)} (Bool-discrete b false) (t ∷ []) [] ≡ reverse (ite {C = List (List ℕ)} (Bool-discrete b false) (t ∷ others m rs) (others m rs))
    go true = append-nil (reverse (others m rs))
    go false = sym (reverse-cons t (others m rs))

-- one is for the number where one more is given behind
any_snoc : (m : ℕ) (ts : List (List ℕ)) (t : List ℕ) → any_for m (ts ++ t ∷ []) ≡ (is_for m t || any_for m ts)
unfolding any_for
any_snoc m [] t = refl
any_snoc m (u ∷ ts) t = rw (any_snoc m ts t) (go (is_for m u) (is_for m t))
  where
    go : (a b : Bool) → (a || (b || any_for m ts)) ≡ (b || (a || any_for m ts))
    go true true = refl
    go true false = refl
    go false b = refl

-- one is for the number where fewer are kept
pager_any : (m rank : ℕ) (rs : List (List ℕ)) → any_for m (reverse rs) ≡ not (eqb (length (kept_from (Pager m) rank rs)) (length rs))
unfolding kept_from any_for
pager_any m rank [] = refl
pager_any m rank (t ∷ rs) = rw (reverse-cons t rs, any_snoc m (reverse rs) t) (go (is_for m t) (pager_any m (rank + 1) rs))
  where
    older : List (List ℕ)
    older = kept_from (Pager m) (rank + 1) rs

    go : (b : Bool) → any_for m (reverse rs) ≡ not (eqb (length older) (length rs)) → (b || any_for m (reverse rs)) ≡ not (eqb (length (if b then older else t ∷ older)) (suc (length rs)))
    go true h = sym (rw (ne_eqb (length older) (suc (length rs)) λ same. omega (arith, kept_fewer (Pager m) (rank + 1) rs)))
    go false h = rw (eqb-suc-suc (length older) (length rs)) h

-- the answer to a pager number
pager-kept : (m : ℕ) (rs : List (List ℕ)) → without_pager m (reverse rs) ≡ answered (Pager m) rs
unfolding without_pager
pager-kept m rs = rw (pager_any m 1 rs, others-reverse m rs, ← pager-others m 1 rs) (choice-not (eqb (length (kept_from (Pager m) 1 rs)) (length rs)) (done (reverse (kept_from (Pager m) 1 rs))) (refused 9))

-- no record has the rank 0
none-there : (ts : List (List ℕ)) → without_newest 0 ts ≡ refused 9
unfolding without_newest
none-there ts = refl

-- all is kept where nothing is chosen
nothing-kept : (rank : ℕ) (rs : List (List ℕ)) → kept_from Nothing rank rs ≡ rs
unfolding kept_from
nothing-kept rank [] = refl
nothing-kept rank (t ∷ rs) = ap (λ us. t ∷ us) (nothing-kept (rank + 1) rs)

-- the answer to each choice
pub without-kept : (choice : Choice) (rs : List (List ℕ)) → without choice (reverse rs) ≡ answered choice rs
without-kept (Newest n) rs = newest_kept n rs
without-kept (Pager m) rs = pager-kept m rs
without-kept Nothing rs = none-there (reverse rs) ∙ rw (nothing-kept 1 rs, eq-eqb (length rs) (length rs) refl)

-- a journal without those chosen is a journal
pub without-journal : (choice : Choice) (ts ks : List (List ℕ)) → Journal ts → without choice ts ≡ done ks → Journal ks
without-journal choice ts ks j h =
    let rs : List (List ℕ) = reverse ts in
    let turned : reverse rs ≡ ts = reverse-reverse ts in
    let answer = sym (without-kept choice rs) ∙ ap (without choice) turned ∙ h in
    let (_, made) = passed (eqb (length (kept_from choice 1 rs)) (length rs)) 9 _ ks answer in
    let same : reverse (kept_from choice 1 rs) ≡ ks = cc in
    let fewer = kept_fewer choice 1 rs in
    let smaller : length (records_of ks) ≤ length (records_of ts) = rw (same, turned) at (kept_smaller choice 1 rs) in
    record {
      each = rw (← same) (legal-reverse (kept_from choice 1 rs) (kept-legal choice 1 rs (legal-reverse ts j.each)));
      few = omega (arith, j.few, ap length same, length-reverse (kept_from choice 1 rs), length-reverse ts);
      small = omega (arith, j.small);
    }
