-- Laws of the content rules: counting fields and reading a number as loops do them, and searching the list; the first field and its end;
-- and what the rules say of a transaction by its fields.
use Rattle.std.specs.List.{list_any}
use Rattle.std.specs.Prelude.{if◌then◌else◌}
use mathlib.Core.Bool.{Bool, true, false, and-eq-true_iff}
use mathlib.Core.List.{List, [], ◌∷◌, ◌++◌}
use mathlib.Core.Path.{◌≡◌, refl, sym, ◌∙◌}
use Prim.Native.Nat.{ℕ, suc, ◌+◌, ◌-◌, ◌*◌, ◌^◌, ◌≤◌, ◌<◌}
use native.Mathlib.Nat.{pow-suc}
use native.Mathlib.Numerals.{add-one}
use native.Mathlib.Omega.{arith}
use borrow.Author.Tests.{leb-true, eqb-true, eq-eqb, ne_eqb}
use lib.Dec.{eqb, leb}
use lib.ListN.{length, get_or, take, drop, drop_of_length-le}
use lib.Seq.{drop-cons}
use Rattle.line.proofs.FindLaws.{before-within}
use Rattle.line.proofs.SameLaws.{eqb_turned}
use Rattle.line.proofs.TransactionLaws.{legal-transaction}
use Rattle.line.specs.Character.{CR, printable, digit}
use Rattle.line.specs.Test.{all, before}
use Rattle.line.specs.Transaction.{Fields, none, next, legal}
use Rattle.journal.specs.Storage.{Storage}
use Rattle.admission.specs.Content.{number_from, first_field, field_count, listed, is_pager_id, pages, is_for, content, admits}

-- a loop that has counted n CRs before the place i: the rest has the others
module _ (t : List ℕ) (i n : ℕ) (rest : field_count t ≡ n + field_count (drop i t)) where
  -- a CR stands at i
  pub count-more : get_or t i 0 ≡ CR → i < length t → field_count t ≡ n + 1 + field_count (drop (i + 1) t)
  unfolding field_count
  count-more e h =
      let step : field_count (drop i t) ≡ 1 + field_count (drop (i + 1) t) = rw (add-one, drop-cons t i 0 h, eq-eqb (get_or t i 0) CR e) in
      omega arith

  -- another character stands at i
  pub count_same : (get_or t i 0 ≡ CR → ⊥) → i < length t → field_count t ≡ n + field_count (drop (i + 1) t)
  unfolding field_count
  count_same e h = rest ∙ rw (add-one, drop-cons t i 0 h, ne_eqb (get_or t i 0) CR e)

  -- none is left
  pub count-ended : length t ≤ i → n ≡ field_count t
  unfolding field_count
  count-ended h =
      let empty : field_count (drop i t) ≡ 0 = rw (drop_of_length-le t h) in
      omega arith

-- a digit's code
pub digit-range : (c : ℕ) → digit c ≡ true → (0x30 ≤ c) × (c ≤ 0x39)
digit-range c h =
    let (low, high) = (and-eq-true_iff (leb 0x30 c) (leb c 0x39)).0 h in
    (leb-true 0x30 c low, leb-true c 0x39 high)

-- one digit more makes a number of i digits one of i + 1
pub number-below : (n d i : ℕ) → n < 10 ^ i → d ≤ 9 → n * 10 + d < 10 ^ (i + 1)
number-below n d i h k = rw (add-one, pow-suc 10 i) (omega arith)

-- a loop that has read the number n before the place i: the rest goes on from it
module _ (ds : List ℕ) (i n : ℕ) (rest : number_from 0 ds ≡ number_from n (drop i ds)) where
  -- the digit at i is read
  pub number_more : i < length ds → number_from 0 ds ≡ number_from (n * 10 + (get_or ds i 0 - 0x30)) (drop (i + 1) ds)
  unfolding number_from
  number_more h = rest ∙ rw (add-one, drop-cons ds i 0 h)

  -- none is left
  pub number-ended : length ds ≤ i → n ≡ number_from 0 ds
  unfolding number_from
  number-ended h = sym (rest ∙ rw (drop_of_length-le ds h))

-- one of the list is one that is equal
pub any-listed : (n : ℕ) (ms : List ℕ) → list_any (λ m. eqb m n) ms ≡ listed n ms
unfolding listed
any-listed n [] = refl
any-listed n (m ∷ ms) = rw (eqb_turned m n, any-listed n ms)

-- the first field is what stands before the first CR
pub first-before : (t : List ℕ) → first_field t ≡ take (before CR t) t
unfolding first_field before
first-before [] = refl
first-before (c ∷ t) = go (eqb c CR) (first-before t)
  where
    go : (b : Bool) → first_field t ≡ take (before CR t) t → (if b then [] else c ∷ first_field t) ≡ take (if b then 0 else suc (before CR t)) (c ∷ t)
    go true h = refl
    go false h = rw h

-- the first CR as it is found, or the end, lies within, and the first field stands before it
pub first_found : (t : List ℕ) (end : ℕ) → end ≡ 0 + before CR (drop 0 t) → (end ≤ length t) × (take end t ≡ first_field t)
first_found t end h =
    let at : end ≡ before CR t = omega (arith, h) in
    (omega (arith, before-within CR t), rw at (sym (first-before t)))

-- a character of a field is no CR
pub printable-other : (c : ℕ) → printable c ≡ true → eqb c CR ≡ false
printable-other c h =
    let (low, _) = (and-eq-true_iff (leb 0x20 c) (leb c 0x7E)).0 h in
    ne_eqb c CR (λ e. omega (arith, leb-true 0x20 c low))

-- a field and its CR count one
field_counts : (f t : List ℕ) → all printable f ≡ true → field_count (f ++ CR ∷ t) ≡ 1 + field_count t
unfolding all field_count
field_counts [] t h = refl
field_counts (c ∷ f) t h =
    let (p, q) = (and-eq-true_iff (printable c) (all printable f)).0 h in
    rw (printable-other c p) (field_counts f t q)

-- a field ends at its CR
field_first : (f t : List ℕ) → all printable f ≡ true → first_field (f ++ CR ∷ t) ≡ f
unfolding all first_field
field_first [] t h = refl
field_first (c ∷ f) t h =
    let (p, q) = (and-eq-true_iff (printable c) (all printable f)).0 h in
    rw (printable-other c p, field_first f t q)

-- as many fields are counted as there are
pub fields-count : {fs : List (List ℕ)} {t : List ℕ} → Fields fs t → field_count t ≡ length fs
unfolding field_count
fields-count none = refl
fields-count (next {f} {t} h r) = omega (arith, field_counts f t h, fields-count r)

-- the first field is the first
pub fields-first : {f : List ℕ} {fs : List (List ℕ)} {t : List ℕ} → Fields (f ∷ fs) t → first_field t ≡ f
fields-first (next {f} {t} h r) = field_first f t h

-- two fields are counted as two, and the first is the first
pub first_two : (f g : List ℕ) → all printable f ≡ true → all printable g ≡ true →
    (field_count (f ++ CR ∷ (g ++ CR ∷ [])) ≡ 2) × (first_field (f ++ CR ∷ (g ++ CR ∷ [])) ≡ f)
first_two f g h k =
    let made : Fields (f ∷ g ∷ []) (f ++ CR ∷ (g ++ CR ∷ [])) = next h (next k none) in
    (fields-count made, fields-first made)

-- a transaction of two fields, the first of them as it is read
pub record TwoFields (t : List ℕ) : Type 0 where
  pub second : List ℕ
  pub made : Fields (first_field t ∷ second ∷ []) t
  pub joined : t ≡ first_field t ++ CR ∷ (second ++ CR ∷ [])
  pub first-printable : all printable (first_field t) ≡ true
  pub second-printable : all printable second ≡ true

-- a legal transaction in which two fields are counted has these two
pub two_fields : (t : List ℕ) → legal t ≡ true → field_count t ≡ 2 → TwoFields t
two_fields t h e =
    let r = legal-transaction t h in
    go r.made (sym (fields-count r.made) ∙ e)
  where
    go : {fs : List (List ℕ)} {t : List ℕ} → Fields fs t → length fs ≡ 2 → TwoFields t
    go none n = absurd (omega arith)
    go (next h none) n = absurd (omega arith)
    go (next h (next k (next l r))) n = absurd (omega arith)
    go (next {f} h (next {f = g} k none)) n =
        let first = field_first f (g ++ CR ∷ []) h in
        record { second = g; made = rw first (next h (next k none)); joined = rw first; first-printable = rw first h; second-printable = k }

-- right content: at most L characters, two fields, the first a listed pager number
pub record Content (most : ℕ) (pagers t : List ℕ) : Type 0 where
  pub within : length t ≤ most
  pub two : field_count t ≡ 2
  pub pager : pages pagers (first_field t) ≡ true

-- what passes the content rules meets each of them
pub content-parts : (most : ℕ) (pagers t : List ℕ) → content most pagers t ≡ true → Content most pagers t
unfolding content
content-parts most pagers t h =
    let (few, pager) = (and-eq-true_iff _ (pages pagers (first_field t))).0 h in
    let (short, two) = (and-eq-true_iff (leb (length t) most) (eqb (field_count t) 2)).0 few in
    record { within = leb-true (length t) most short; two = eqb-true (field_count t) 2 two; pager = pager }

-- a transaction with right content is for one of the listed numbers
pub content_for : (most : ℕ) (pagers t : List ℕ) → content most pagers t ≡ true → (m : ℕ) × (listed m pagers ≡ true) × (is_for m t ≡ true)
unfolding is_for
content_for most pagers t h =
    let n : ℕ = number_from 0 (first_field t) in
    let (id, found) = (and-eq-true_iff (is_pager_id (first_field t)) (listed n pagers)).0 (content-parts most pagers t h).pager in
    (n, found, rw (id, eq-eqb n n refl))

-- a transaction that is admitted has right content, and the journal has room for it
pub admits-parts : {J : Type 0} (most : ℕ) (pagers : List ℕ) (store : Storage J) (journal : J) (t : List ℕ) → admits most pagers store journal t ≡ true →
    Content most pagers t × (store.room journal t ≡ true)
unfolding admits
admits-parts most pagers store journal t h =
    let (right, room) = (and-eq-true_iff (content most pagers t) (store.room journal t)).0 h in
    (content-parts most pagers t right, room)

-- a zero in front does not change a number
pub leading_zero : (f : List ℕ) → number_from 0 (0x30 ∷ f) ≡ number_from 0 f
unfolding number_from
leading_zero f = refl
