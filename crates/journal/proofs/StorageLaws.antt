-- A journal at the start of a buffer, to those who store in it: its size, one transaction more, and what the buffer holds and is read as once it is stored.
use Rattle.std.specs.Prelude.{if◌then◌else◌}
use mathlib.Core.Bool.{Bool, true, false, not, and-eq-true_iff}
use mathlib.Core.List.{List, [], ◌∷◌, ◌++◌, append-nil}
use mathlib.Core.Path.{◌≡◌, refl, sym, ap, ◌∙◌}
use Prim.Native.Nat.{ℕ, zero, suc, ◌+◌, ◌≤◌}
use native.Mathlib.Nat.{not-suc-le-zero, le_of_suc-le-suc}
use native.Mathlib.Omega.{arith}
use borrow.Author.Tests.{ltb-false, le-ltb, leb-true, eqb-true, eq-eqb, not-false}
use lib.Dec.{leb, ltb, eqb}
use lib.ListN.{length, take, drop, length-append, drop_of_length-le}
use lib.Seq.{length-take-le, take-take}
use Rattle.line.proofs.AllLaws.{all_take}
use Rattle.line.proofs.OutcomeLaws.{passed}
use Rattle.line.proofs.OverlayLaws.{overlay-length, overlay-own, overlay-start}
use Rattle.line.specs.Answer.{Outcome, done, refused, and_then, overlay}
use Rattle.line.specs.Character.{byte}
use Rattle.line.specs.Test.{all}
use Rattle.line.specs.Transaction.{legal}
use Rattle.journal.specs.Walk.{trailer, decode}
use Rattle.journal.specs.declared.cursor.Position.{Position}
use Rattle.journal.specs.Encoding.{encode, records_of, all_legal, Journal}
use Rattle.journal.specs.Storage.{transactions, size_of, is_buffer, in_buffer, trailer_in, decode_in, stored_in}
use Rattle.journal.proofs.EncodingLaws.{trailer-encode, trailer-parts, encode_records, decode-encode, encode-decode}
use Rattle.journal.proofs.RecordLaws.{encode-length, legal-append, records_length-snoc}

-- one transaction more makes a journal longer, by the transaction and two bytes
pub put-size : (ts : List (List ℕ)) (t : List ℕ) → size_of (transactions.put ts t) ≡ size_of ts + (length t + 2)
unfolding size_of
put-size ts t = omega (arith, encode-length ts, encode-length (ts ++ t ∷ []), records_length-snoc ts t)

-- a journal with one legal transaction more, for which there is room, is a journal
pub put-journal : (ts : List (List ℕ)) (t : List ℕ) → Journal ts → legal t ≡ true → transactions.room ts t ≡ true → Journal (transactions.put ts t)
unfolding all_legal
put-journal ts t j l h =
    let (p, q) = (and-eq-true_iff (leb (length ts + 1) 64) (leb (length (records_of ts) + (length t + 2)) 32000)).0 h in
    record {
      each = legal-append ts (t ∷ []) j.each (rw l);
      few = rw (length-append ts (t ∷ [])) (leb-true (length ts + 1) 64 p);
      small = rw (records_length-snoc ts t) (leb-true (length (records_of ts) + (length t + 2)) 32000 q);
    }

-- what is read of a buffer by its tests
module _ {A : Type 0} (read : List ℕ → Outcome A) (buffer : List ℕ) (n : ℕ) where
  -- the bytes are taken, and read where there is no refusal
  pub in_read : (o : Outcome (List ℕ)) → o ≡ in_buffer (λ b. done b) buffer n → and_then o read ≡ in_buffer read buffer n
  in_read o e = rw e (go (is_buffer buffer) (ltb (length buffer) n))
    where
      go : (size past : Bool) → and_then (if not size then refused 1 else if past then refused 7 else done (take n buffer)) read ≡ (if not size then refused 1 else if past then refused 7 else read (take n buffer))
      go false past = refl
      go true true = refl
      go true false = refl

  -- the first n are read
  pub in_within : is_buffer buffer ≡ true → n ≤ length buffer → read (take n buffer) ≡ in_buffer read buffer n
  in_within e h = rw (e, le-ltb (length buffer) n h)

  -- what is read has passed both
  in_parts : (x : A) → in_buffer read buffer n ≡ done x → (length buffer ≡ 32004) × (n ≤ length buffer) × (read (take n buffer) ≡ done x)
  unfolding is_buffer
  in_parts x h =
      let (size, r) = passed (not (eqb (length buffer) 32004)) _ _ _ h in
      let (fits, e) = passed (ltb (length buffer) n) _ _ _ r in
      (eqb-true (length buffer) 32004 (not-false (eqb (length buffer) 32004) size), ltb-false (length buffer) n fits, e)

-- a trailer that is read at the start of a buffer: the buffer's size, and where the records end
pub trailer_in_parts : (buffer : List ℕ) (n : ℕ) (p : Position) → trailer_in buffer n ≡ done p →
    (length buffer ≡ 32004) × (n ≤ length buffer) × (n ≡ p.end + 4) × (p.end ≤ 32000) × (p.left ≤ 64)
unfolding trailer_in
trailer_in_parts buffer n p h =
    let (whole, within, e) = in_parts trailer buffer n p h in
    let (few, small, long, same) = trailer-parts (take n buffer) p e in
    let ends = sym (length-take-le n buffer within) ∙ long in
    rw (← same) (whole, within, ends, small, few)

-- a journal that is read at the start of a buffer of bytes
module _ (buffer : List ℕ) (n : ℕ) (ts : List (List ℕ)) (bytes : all byte buffer ≡ true) (read : decode_in buffer n ≡ done ts) where
  -- the buffer's size, and whose bytes lie there
  pub decode_in_parts : (length buffer ≡ 32004) × (n ≤ length buffer) × (take n buffer ≡ encode ts) × Journal ts
  unfolding decode_in
  decode_in_parts =
      let (size, within, e) = in_parts decode buffer n ts read in
      let (same, j) = encode-decode (take n buffer) ts (all_take byte n buffer bytes) e in
      (size, within, same, j)

  -- its buffer has the right size
  pub read-buffer : is_buffer buffer ≡ true
  unfolding is_buffer
  read-buffer = eq-eqb (length buffer) 32004 decode_in_parts.0

  -- its length is its size
  pub read-size : size_of ts ≡ n
  unfolding size_of
  read-size = sym (ap length decode_in_parts.2) ∙ length-take-le n buffer decode_in_parts.1

  -- it is a journal
  pub read-journal : Journal ts
  read-journal = decode_in_parts.3

  -- its trailer says where its records end and how many they are
  pub read-trailer : trailer_in buffer n ≡ done (record { end = length (records_of ts); left = length ts })
  unfolding trailer_in
  read-trailer =
      let (_, within, same, j) = decode_in_parts in
      sym (in_within trailer buffer n read-buffer within) ∙ ap trailer same ∙ trailer-encode ts j

  -- its records lie at the start of the buffer
  pub read_records : take (length (records_of ts)) buffer ≡ records_of ts
  read_records =
      let (_, within, same, _) = decode_in_parts in
      let size = sym (length-take-le n buffer within) ∙ ap length same ∙ encode-length ts in
      sym (take-take (length (records_of ts)) n buffer (omega arith)) ∙ ap (take (length (records_of ts))) same ∙ encode_records ts

  -- stored again it leaves the buffer as it was
  pub stored-own : stored_in (done ts) buffer ≡ buffer
  unfolding stored_in
  stored-own =
      let (_, within, same, _) = decode_in_parts in
      sym (rw (← same) (overlay-own n buffer within))

-- a buffer keeps its size
pub stored-buffer : (buffer : List ℕ) (ts : List (List ℕ)) → is_buffer buffer ≡ true → Journal ts → is_buffer (stored_in (done ts) buffer) ≡ true
unfolding is_buffer stored_in
stored-buffer buffer ts size j =
    let long = eqb-true (length buffer) 32004 size in
    rw (overlay-length (encode ts) buffer (omega (arith, encode-length ts, j.small))) size

-- what is stored in a buffer is read there
pub stored-read : (buffer : List ℕ) (ts : List (List ℕ)) → is_buffer buffer ≡ true → Journal ts → decode_in (stored_in (done ts) buffer) (size_of ts) ≡ done ts
unfolding is_buffer decode_in size_of stored_in
stored-read buffer ts size j =
    let e : List ℕ = encode ts in
    let whole = eqb-true (length buffer) 32004 size in
    let fits : length e ≤ 32004 = omega (arith, encode-length ts, j.small) in
    let same : length (overlay e buffer) ≡ length buffer = overlay-length e buffer (omega arith) in
    sym (in_within decode (overlay e buffer) (length e) (stored-buffer buffer ts size j) (omega arith)) ∙ ap decode (overlay-start e buffer (length e) refl) ∙ decode-encode ts j

-- behind what was laid over the memory is as it was
pub drop-over : (n : ℕ) (b m : List ℕ) → length b ≤ n → drop n (b ++ drop (length b) m) ≡ drop n m
drop-over n [] m h = refl
drop-over zero (x ∷ b) m h = absurd (not-suc-le-zero h)
drop-over (suc n) (x ∷ b) [] h = ap (drop n) (append-nil b) ∙ drop_of_length-le b (le_of_suc-le-suc h)
drop-over (suc n) (x ∷ b) (y ∷ m) h = drop-over n b m (le_of_suc-le-suc h)

-- a journal that is no shorter than the one stored before it covers that one
pub stored-over : (buffer : List ℕ) (ts us : List (List ℕ)) → size_of ts ≤ size_of us → stored_in (done us) (stored_in (done ts) buffer) ≡ stored_in (done us) buffer
unfolding size_of stored_in overlay
stored-over buffer ts us h = ap (λ m. encode us ++ m) (drop-over (length (encode us)) (encode ts) buffer h)
