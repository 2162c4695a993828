-- Laws of a page that is offered to the journal: as a transaction it is legal unless it is too long, and what is too long is not admitted.
use mathlib.Core.Bool.{true, false, ◌&&◌, and-eq-true_iff}
use mathlib.Core.List.{List, [], ◌∷◌, ◌++◌, append_assoc}
use Rattle.std.specs.Prelude.{Option, None, Result, Ok, Err}
use Rattle.std.specs.Result.{result_unwrap_or}
use Rattle.line.specs.Answer.{done, outcome_of}
use mathlib.Core.Path.{◌≡◌, sym}
use Prim.Native.Nat.{ℕ, ◌+◌, ◌≤◌, ◌<◌}
use native.Mathlib.Omega.{arith}
use borrow.Author.Tests.{le-leb, lt-leb, leb-true, eqb-false}
use lib.Dec.{eqb, leb}
use lib.ListN.{length, take, length-append}
use lib.Seq.{length-take-le}
use Rattle.line.proofs.AllLaws.{all_weaken}
use Rattle.line.proofs.TransactionLaws.{transaction-legal}
use Rattle.line.specs.Character.{CR, byte, printable, digit}
use Rattle.line.specs.Test.{all}
use Rattle.line.specs.Transaction.{Fields, none, next, legal}
use Rattle.journal.proofs.StorageLaws.{stored-own}
use Rattle.admission.proofs.AdmissionLaws.{admit_stores}
use Rattle.admission.specs.Admission.{Admits, admit_to}
use Rattle.admission.specs.Content.{is_pager_id, content, admits}
use Rattle.line.specs.declared.answer.Refusal.{Refusal}
use Rattle.central.specs.Inner.{Readable, transactions_in}
use Rattle.snpp.specs.Inner.{Offers}
use Rattle.snpp.specs.Reaction.{page_of}
use Rattle.snpp.proofs.StateLaws.{Held}

-- how long a page is as a transaction
pub page-length : (pager text : List ℕ) → length (page_of pager text) ≡ length pager + length text + 2
page-length pager text = simp length-append (omega arith)

-- its parts, laid one behind the other
pub page-joined : (pager text : List ℕ) → (pager ++ CR ∷ []) ++ text ++ CR ∷ [] ≡ page_of pager text
page-joined pager text = simp append_assoc

-- digits are characters of a field
digits-printable : (text : List ℕ) → all digit text ≡ true → all printable text ≡ true
digits-printable = all_weaken λ c h.
    let (low, high) = (and-eq-true_iff (leb 0x30 c) (leb c 0x39)).0 h in
    let least = leb-true 0x30 c low in
    let most = leb-true c 0x39 high in
    rw (le-leb 0x20 c (omega arith), le-leb c 0x7E (omega arith))

-- a pager ID is made of them
pub pager-printable : (pager : List ℕ) → is_pager_id pager ≡ true → all printable pager ≡ true
pager-printable pager h = digits-printable pager ((and-eq-true_iff (leb 1 (length pager) && leb (length pager) 8) (all digit pager)).0 h).1

-- the digits in an array are a pager ID, where there are any
pub held-pager : (array : List ℕ) (n : ℕ) → Held digit array n → length array ≡ 8 → eqb n 0 ≡ false → is_pager_id (take n array) ≡ true
held-pager array n h e other =
    let long = length-take-le n array h.within in
    let few : n ≤ 8 = omega (arith, h.within) in
    let nought : n ≡ 0 → ⊥ = eqb-false n 0 other in
    let one : 1 ≤ n = omega arith in
    rw (long, le-leb 1 n one, le-leb n 8 few, h.text)

-- a page that is not too long is a transaction
pub page-legal : (pager text : List ℕ) → all printable pager ≡ true → all printable text ≡ true → length (page_of pager text) ≤ 2000 → legal (page_of pager text) ≡ true
page-legal pager text p m h =
    let made : Fields (pager ∷ text ∷ []) (page_of pager text) = next p (next m none) in
    transaction-legal (record { fields = pager ∷ text ∷ []; made = made; some = omega arith; within = h })

-- what an answer that is no refusal has
done_value : (a : Result (Option ℕ) Refusal) {o : Option ℕ} → outcome_of a ≡ done o → result_unwrap_or a None ≡ o
done_value (Ok x) e = cc
done_value (Err q) e = let z : ◌≡◌ {A = ℕ} 0 1 = cc in absurd (omega arith)

-- a page that is offered to a journal that is read
module _ (most : ℕ) (pagers buffer : List ℕ) (n : ℕ) (pager text : List ℕ) (bytes : all byte buffer ≡ true) (read : Readable buffer n) where
  -- it is too long
  pub offers-long : most ≤ 2000 → 2000 < length (page_of pager text) → Offers most pagers n pager text None buffer buffer
  unfolding admits content
  offers-long m h =
      let over = lt-leb (length (page_of pager text)) most (omega arith) in
      record { answers = rw over; leaves = rw over (sym (stored-own buffer n (transactions_in buffer n) bytes read)) }

  -- it is not, and admission decides
  pub offers-admitted : {a : Result (Option ℕ) Refusal} {buffer' : List ℕ} → legal (page_of pager text) ≡ true → Admits (admit_to most pagers buffer n (page_of pager text)) a buffer buffer' → Offers most pagers n pager text (result_unwrap_or a None) buffer buffer'
  offers-admitted {a} good w =
      let (answers, leaves) = admit_stores most pagers buffer n (page_of pager text) (transactions_in buffer n) bytes read good w in
      record { answers = done_value a answers; leaves = leaves }
