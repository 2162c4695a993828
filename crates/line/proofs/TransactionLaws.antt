-- Laws of fields and transactions: the two readings of a legal transaction are one, its fields are unique, and where it ends.
use Rattle.std.specs.Prelude.{if◌then◌else◌}
use mathlib.Core.Bool.{Bool, true, false, not, ◌&&◌, false≢true, and-eq-true_iff, and-true, and-false}
use mathlib.Core.List.{List, [], ◌∷◌, ◌++◌}
use mathlib.Core.Logic.{◌⊎◌, inl, inr}
use mathlib.Core.Path.{◌≡◌, refl, ap, ◌∙◌}
use Prim.Native.Nat.{ℕ, ◌-◌, ◌≤◌, ◌<◌}
use native.Mathlib.Numerals.{sub-one}
use native.Mathlib.Omega.{arith}
use borrow.Author.Tests.{leb-true, eqb-true, le-leb, lt-leb, lt-ltb}
use lib.Dec.{leb, eqb}
use lib.ListN.{length, get_or, drop, length-append}
use Rattle.line.specs.Answer.{Outcome, done, refused}
use Rattle.line.specs.Character.{CR, seven, printable, textual}
use Rattle.line.specs.Test.{all}
use Rattle.line.specs.Transaction.{Fields, none, next, Transaction, ends_in_cr, legal, of_transaction}
use Rattle.line.proofs.AllLaws.{all_append, all_weaken}
use Rattle.line.proofs.SameLaws.{eqb_turned}
use Rattle.std.specs.List.{ends_with}

-- a textual character is printable or CR
textual_cases : (c : ℕ) → textual c ≡ true → (printable c ≡ true) ⊎ (c ≡ CR)
textual_cases c h = go (printable c) refl
  where
    go : (b : Bool) → printable c ≡ b → (printable c ≡ true) ⊎ (c ≡ CR)
    go true e = inl e
    go false e = inr (eqb-true c CR (rw e at h))

-- characters of a transaction are 7-bit values
pub textual-seven : (t : List ℕ) → all textual t ≡ true → all seven t ≡ true
textual-seven = all_weaken λ c h. one c (textual_cases c h)
  where
    one : (c : ℕ) → (printable c ≡ true) ⊎ (c ≡ CR) → seven c ≡ true
    one c (inl p) =
        let (_, le) = (and-eq-true_iff (leb 0x20 c) (leb c 0x7E)).0 p in
        lt-ltb c 0x80 (omega (arith, leb-true c 0x7E le))
    one c (inr e) = rw e

-- characters of a field are characters of a transaction
pub printable-textual : (t : List ℕ) → all printable t ≡ true → all textual t ≡ true
printable-textual = all_weaken λ c h. rw h

-- the end of two lists joined is the second's
pub ends-append : (s : List ℕ) (c : ℕ) (t : List ℕ) → ends_in_cr (s ++ c ∷ t) ≡ ends_in_cr (c ∷ t)
unfolding ends_in_cr
ends-append [] c t = refl
ends-append (x ∷ []) c t = refl
ends-append (x ∷ y ∷ s) c t = ends-append (y ∷ s) c t

-- what is joined ends in CR where the second part does
pub ends-joined : (s t : List ℕ) → ends_in_cr t ≡ true → ends_in_cr (s ++ t) ≡ true
unfolding ends_in_cr
ends-joined s [] h = cc
ends-joined s (c ∷ t) h = ends-append s c t ∙ h

-- what ends in CR has a character
pub ends_some : (t : List ℕ) → ends_in_cr t ≡ true → 1 ≤ length t
unfolding ends_in_cr
ends_some [] e = absurd (false≢true e)
ends_some (c ∷ t) e = omega arith

-- the end is the character at the last place
pub ends_last : (t : List ℕ) → ends_in_cr t ≡ eqb (get_or t (length t - 1) 0) CR
unfolding ends_in_cr
ends_last [] = refl
ends_last (c ∷ []) = refl
ends_last (c ∷ d ∷ t) = rw sub-one (rw sub-one at (ends_last (d ∷ t)))

-- the library's test of an end of one character
pub ends_with-cr : (t : List ℕ) → ends_with eqb t (CR ∷ []) ≡ ends_in_cr t
unfolding ends_in_cr
ends_with-cr [] = refl
ends_with-cr (c ∷ []) = rw and-true (eqb_turned CR c)
ends_with-cr (c ∷ d ∷ t) = rw sub-one (rw sub-one at (ends_with-cr (d ∷ t)))

-- fields are made of characters of a transaction
fields-textual : {fs : List (List ℕ)} {t : List ℕ} → Fields fs t → all textual t ≡ true
unfolding all
fields-textual none = refl
fields-textual (next {f} h r) = rw (all_append, printable-textual f h, fields-textual r)

-- after a CR, fields end in CR
fields-end : {fs : List (List ℕ)} {t : List ℕ} → Fields fs t → ends_in_cr (CR ∷ t) ≡ true
unfolding ends_in_cr
fields-end none = refl
fields-end (next {f} {t} h r) = ends-append (CR ∷ f) CR t ∙ fields-end r

-- one or more fields have a character and end in CR
made-end : {fs : List (List ℕ)} {t : List ℕ} → Fields fs t → 1 ≤ length fs → (1 ≤ length t) × (ends_in_cr t ≡ true)
made-end none s = absurd (omega arith)
made-end (next {f} {t} h r) s = (rw length-append (omega arith), ends-append f CR t ∙ fields-end r)

-- a transaction passes the test
pub transaction-legal : {t : List ℕ} → Transaction t → legal t ≡ true
transaction-legal {t} r =
    let (some, end) = made-end r.made r.some in
    rw (le-leb 1 (length t) some, le-leb (length t) 2000 r.within, fields-textual r.made, end)

-- one character more: a printable one begins the first field, a CR is a field of its own
extend : (c : ℕ) {fs : List (List ℕ)} {t : List ℕ} → (printable c ≡ true) ⊎ (c ≡ CR) → Fields fs t → 1 ≤ length fs → length (c ∷ t) ≤ 2000 → Transaction (c ∷ t)
unfolding all
extend c (inl p) none s l = absurd (omega arith)
extend c (inl p) (next {f} {fs = fs} h r) s l = record { fields = (c ∷ f) ∷ fs; made = next {f = c ∷ f} (rw (p, h)) r; some = omega arith; within = l }
extend c {fs} (inr e) r s l = record { fields = [] ∷ fs; made = rw e (next refl r); some = omega arith; within = l }

-- characters of a transaction that end in CR are fields
split : (t : List ℕ) → all textual t ≡ true → ends_in_cr t ≡ true → length t ≤ 2000 → Transaction t
unfolding all ends_in_cr
split [] h e l = absurd (false≢true e)
split (c ∷ []) h e l = record { fields = [] ∷ []; made = rw (eqb-true c CR e) (next refl none); some = omega arith; within = l }
split (c ∷ d ∷ t) h e l =
    let (p, q) = (and-eq-true_iff (textual c) (all textual (d ∷ t))).0 h in
    let r = split (d ∷ t) q e (omega arith) in
    extend c (textual_cases c p) r.made r.some l

-- the test's parts
pub legal-parts : (t : List ℕ) → legal t ≡ true → (leb 1 (length t) && leb (length t) 2000 ≡ true) × (all textual t ≡ true) × (ends_in_cr t ≡ true)
legal-parts t h =
    let (r, end) = (and-eq-true_iff _ (ends_in_cr t)).0 h in
    let (n, text) = (and-eq-true_iff _ (all textual t)).0 r in
    (n, text, end)

-- what is short enough passes the test where it ends in CR and has the characters
pub legal-short : (t : List ℕ) → length t ≤ 2000 → legal t ≡ (ends_in_cr t && all textual t)
legal-short t h = go (ends_in_cr t) refl
  where
    go : (b : Bool) → ends_in_cr t ≡ b → legal t ≡ (b && all textual t)
    go true e = rw (le-leb 1 (length t) (ends_some t e), le-leb (length t) 2000 h, e, and-true)
    go false e = rw (e, and-false)

-- what is too long does not
pub legal-long : (t : List ℕ) → 2000 < length t → legal t ≡ false
legal-long t h = rw (lt-leb (length t) 2000 h, and-false)

-- what passes the test is a transaction
pub legal-transaction : (t : List ℕ) → legal t ≡ true → Transaction t
legal-transaction t h =
    let (n, text, end) = legal-parts t h in
    split t text end (leb-true (length t) 2000 ((and-eq-true_iff (leb 1 (length t)) _).0 n).1)

-- a field is unique: it ends at the first CR
field_unique : (f g : List ℕ) {t u : List ℕ} → all printable f ≡ true → all printable g ≡ true → f ++ CR ∷ t ≡ g ++ CR ∷ u → (f ≡ g) × (t ≡ u)
unfolding all
field_unique [] [] h k e = (refl, cc)
field_unique [] (c ∷ g) h k e = let q : c ≡ CR = cc in absurd (false≢true (rw q at k))
field_unique (c ∷ f) [] h k e = let q : c ≡ CR = cc in absurd (false≢true (rw q at h))
field_unique (c ∷ f) (d ∷ g) h k e =
    let (p, q) = field_unique f g ((and-eq-true_iff (printable c) _).0 h).1 ((and-eq-true_iff (printable d) _).0 k).1 (ap (drop 1) e) in
    (cc, q)

-- the fields of a transaction are unique
pub fields_unique : {fs gs : List (List ℕ)} {t u : List ℕ} → Fields fs t → Fields gs u → t ≡ u → fs ≡ gs
fields_unique none none e = refl
fields_unique none (next h r) e = absurd (omega (arith, simp length-append at (ap length e)))
fields_unique (next h r) none e = absurd (omega (arith, simp length-append at (ap length e)))
fields_unique (next {f} h r) (next {f = g} k s) e =
    let (p, q) = field_unique f g h k e in
    let qs = fields_unique r s q in
    cc

-- a transaction is never refused
pub of_legal : {A : Type 0} (t : List ℕ) (o : Outcome A) → legal t ≡ true → of_transaction t o ≡ o
unfolding of_transaction
of_legal t o h =
    let (n, text, end) = legal-parts t h in
    rw (n, textual-seven t text, text, end)

-- what is right in length and of 7-bit values and still no transaction has a wrong character or end
pub of_illegal : {A : Type 0} (t : List ℕ) (o : Outcome A) → legal t ≡ false → 1 ≤ length t → length t ≤ 2000 → all seven t ≡ true → of_transaction t o ≡ refused 6
unfolding of_transaction
of_illegal t o h some few narrow =
    let one = le-leb 1 (length t) some in
    let most = le-leb (length t) 2000 few in
    let wrong : all textual t && ends_in_cr t ≡ false = rw (one, most) at h in
    rw (one, most, narrow, wrong)

-- what is done is done with a transaction alone
pub of_done : {A : Type 0} (t : List ℕ) (o : Outcome A) (x : A) → of_transaction t o ≡ done x → (legal t ≡ true) × (o ≡ done x)
unfolding of_transaction
of_done t o x h = go (leb 1 (length t) && leb (length t) 2000) (all seven t) (all textual t) (ends_in_cr t) h
  where
    go : (n s a e : Bool) → (if not n then refused 2 else if not s then refused 3 else if not (a && e) then refused 6 else o) ≡ done x → (n && a && e ≡ true) × (o ≡ done x)
    go true true true true h = (refl, h)
    go true true true false h = (cc, cc)
    go true true false e h = (cc, cc)
    go true false a e h = (cc, cc)
    go false s a e h = (cc, cc)

-- information that is refused is refused whatever is done with it
pub of_refused : {A B : Type 0} (t : List ℕ) (x : A) (k : ℕ) (o : Outcome B) → of_transaction t (done x) ≡ refused k → of_transaction t o ≡ refused k
unfolding of_transaction
of_refused {A} {B} t x k o = go (leb 1 (length t) && leb (length t) 2000) (all seven t) (all textual t && ends_in_cr t)
  where
    go : (n s e : Bool) → (if not n then refused 2 else if not s then refused 3 else if not e then refused 6 else done x) ≡ refused k →
        (if not n then refused 2 else if not s then refused 3 else if not e then refused 6 else o) ≡ refused k
    go true true true h = cc
    go true true false h = cc
    go true false e h = cc
    go false s e h = cc
