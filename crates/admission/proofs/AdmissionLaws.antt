-- Laws of "admit, then append": the answer by its tests, and that in a journal that is read it is the content rules, room, and one transaction more.
use Rattle.line.proofs.OutcomeLaws.{handed-refusal}
use Rattle.std.specs.Result.{result_ok}
use Rattle.std.specs.Prelude.{Option, Some, None, Result, Ok, Err, IsErrAnd, if◌then◌else◌}
use mathlib.Core.Bool.{Bool, true, false, not, ◌&&◌}
use mathlib.Core.List.{List}
use mathlib.Core.Path.{◌≡◌, refl, sym, ap, ◌∙◌}
use Prim.Native.Nat.{ℕ}
use native.Mathlib.Omega.{arith}
use lib.ListN.{length}
use Rattle.line.proofs.OverlayLaws.{overlay-none}
use Rattle.line.proofs.TransactionLaws.{legal-parts, of_legal, of_refused}
use Rattle.line.specs.Answer.{Outcome, done, refused, refusal_number, outcome_of, Wrote}
use Rattle.line.specs.Character.{byte}
use Rattle.line.specs.Test.{all}
use Rattle.line.specs.Transaction.{legal, of_transaction}
use Rattle.line.specs.declared.answer.Refusal.{Refusal}
use Rattle.journal.proofs.RecordLaws.{encode_snoc}
use Rattle.journal.proofs.StorageLaws.{read_records, read-trailer, stored-own}
use Rattle.journal.specs.Encoding.{encode}
use Rattle.journal.specs.Storage.{transactions, size_of, trailer_in, decode_in, stored_in}
use Rattle.journal.specs.declared.cursor.Position.{Position}
use Rattle.append.specs.Append.{room_at, extended, extend_to}
use Rattle.admission.specs.Admission.{admit_to, Admits}
use Rattle.admission.specs.Content.{content, admits}

-- a refusal that is handed on leaves the buffer alone
pub admits-handed : {o : Outcome (Option (List ℕ))} (q : Refusal) (r : Result (Option ℕ) Refusal) (m : List ℕ) → IsErrAnd r (λ x. x ≡ q) → o ≡ refused (refusal_number q) → Admits o r m m
admits-handed q r m h e = record { answers = handed-refusal q r h ∙ rw e; leaves = rw e (overlay-none m) }

-- so does a rejection
pub admits-rejected : {o : Outcome (Option (List ℕ))} (m : List ℕ) → o ≡ done None → Admits o (Ok None) m m
admits-rejected m e = record { answers = rw e; leaves = rw e (overlay-none m) }

-- information that is offered to a journal of n bytes at the start of a buffer
module _ (most : ℕ) (pagers buffer : List ℕ) (n : ℕ) (t : List ℕ) where
  -- the buffer or the trailer is refused
  pub admit_unopened : (k : ℕ) → trailer_in buffer n ≡ refused k → admit_to most pagers buffer n t ≡ refused k
  unfolding admit_to
  admit_unopened k e = rw e

  -- the trailer is read
  module _ (p : Position) (opened : trailer_in buffer n ≡ done p) where
    -- the information is refused
    pub admit_unjudged : (k : ℕ) → of_transaction t (done (length t)) ≡ refused k → admit_to most pagers buffer n t ≡ refused k
    unfolding admit_to
    admit_unjudged k e = rw opened (of_refused t (length t) k _ e)

    -- the information is a transaction
    module _ (good : legal t ≡ true) where
      -- content and room decide
      admit_judged : admit_to most pagers buffer n t ≡ done (if content most pagers t && room_at p t then Some (extended buffer p t) else None)
      unfolding admit_to
      admit_judged = rw opened (of_legal t _ good)

      -- its content is wrong
      pub admit_content : content most pagers t ≡ false → admit_to most pagers buffer n t ≡ done None
      admit_content e = admit_judged ∙ rw e

      -- its content is right: an append decides, which lacks at most the room
      module _ (right : content most pagers t ≡ true) {r : Result ℕ Refusal} {after : List ℕ} (w : Wrote (extend_to buffer n t) r buffer after) where
        -- what the append comes to
        extends : extend_to buffer n t ≡ (if not (room_at p t) then refused 8 else done (extended buffer p t))
        unfolding extend_to
        extends = rw (opened, (legal-parts t good).0)

        -- it is stored
        pub admit_stored : (k : ℕ) → r ≡ Ok k → Admits (admit_to most pagers buffer n t) (Ok (Some k)) buffer after
        admit_stored k e = go (room_at p t) (admit_judged ∙ rw right) extends
          where
            go : (b : Bool) → admit_to most pagers buffer n t ≡ done (if b then Some (extended buffer p t) else None) → extend_to buffer n t ≡ (if not b then refused 8 else done (extended buffer p t)) →
                Admits (admit_to most pagers buffer n t) (Ok (Some k)) buffer after
            go true a x =
                let v = rw x at w in
                let count : k ≡ length (extended buffer p t) = cc (v.answers, ap outcome_of e) in
                record { answers = rw (a, count); leaves = rw a v.leaves }
            go false a x =
                let v = rw x at w in
                let z : ◌≡◌ {A = ℕ} 0 1 = cc (v.answers, ap outcome_of e) in
                absurd (omega arith)

        -- there is no room
        pub admit_full : (q : Refusal) → r ≡ Err q → Admits (admit_to most pagers buffer n t) (Ok None) buffer after
        admit_full q e = go (room_at p t) (admit_judged ∙ rw right) extends
          where
            go : (b : Bool) → admit_to most pagers buffer n t ≡ done (if b then Some (extended buffer p t) else None) → extend_to buffer n t ≡ (if not b then refused 8 else done (extended buffer p t)) →
                Admits (admit_to most pagers buffer n t) (Ok None) buffer after
            go true a x =
                let v = rw x at w in
                let z : ◌≡◌ {A = ℕ} 0 1 = cc (v.answers, ap outcome_of e) in
                absurd (omega arith)
            go false a x =
                let v = rw x at w in
                record { answers = rw a; leaves = rw a v.leaves }

        -- so the append answers for both
        pub admit_extended : Admits (admit_to most pagers buffer n t) (Ok (result_ok r)) buffer after
        admit_extended = go r refl
          where
            go : (s : Result ℕ Refusal) → r ≡ s → Admits (admit_to most pagers buffer n t) (Ok (result_ok s)) buffer after
            go (Ok k) e = admit_stored k e
            go (Err q) e = admit_full q e

  -- ── A journal that is read at the start of a buffer of bytes ──

  module _ (ts : List (List ℕ)) (bytes : all byte buffer ≡ true) (read : decode_in buffer n ≡ done ts) where
    -- information that is a transaction and admitted is stored behind the others
    pub admit_put : admit_to most pagers buffer n t ≡ of_transaction t (done (if admits most pagers transactions ts t then Some (encode (transactions.put ts t)) else None))
    unfolding admit_to admits
    admit_put = rw (read-trailer buffer n ts bytes read, read_records buffer n ts bytes read, encode_snoc ts t)

    -- so a transaction is stored where it is admitted, and else the journal stays
    pub admit_stores : {r : Result (Option ℕ) Refusal} {after : List ℕ} → legal t ≡ true → Admits (admit_to most pagers buffer n t) r buffer after →
        (outcome_of r ≡ done (if admits most pagers transactions ts t then Some (size_of (transactions.put ts t)) else None)) ×
        (after ≡ stored_in (done (if admits most pagers transactions ts t then transactions.put ts t else ts)) buffer)
    admit_stores {r} {after} good w = go (admits most pagers transactions ts t) (rw (admit_put ∙ of_legal t _ good) at w)
      where
        go : (b : Bool) → Admits (done (if b then Some (encode (transactions.put ts t)) else None)) r buffer after →
            (outcome_of r ≡ done (if b then Some (size_of (transactions.put ts t)) else None)) × (after ≡ stored_in (done (if b then transactions.put ts t else ts)) buffer)
        go true v = unfold size_of stored_in in (v.answers, v.leaves)
        go false v = (v.answers, v.leaves ∙ sym (overlay-none buffer) ∙ sym (stored-own buffer n ts bytes read))
