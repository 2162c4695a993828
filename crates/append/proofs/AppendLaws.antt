-- Laws of an append: it keeps the records; in a journal that is read, by the trailer alone it is the journal with one transaction more, and that is read again.
use Rattle.std.specs.Prelude.{if◌then◌else◌}
use mathlib.Core.Bool.{Bool, true, false, not, ◌&&◌}
use mathlib.Core.List.{List, append_assoc}
use mathlib.Core.Path.{◌≡◌, refl, sym, ◌∙◌}
use Prim.Native.Nat.{ℕ}
use native.Mathlib.Omega.{arith}
use lib.Dec.{leb}
use lib.ListN.{length, take}
use lib.Seq.{length-take-le, take_at}
use Rattle.line.proofs.OutcomeLaws.{counted-made, map-refused, met, passed}
use Rattle.line.proofs.TransactionLaws.{legal-parts, of_legal, of_done, of_refused}
use Rattle.line.specs.Answer.{done, refused, map_done, output, overlay}
use Rattle.line.specs.Character.{byte}
use Rattle.line.specs.Test.{all}
use Rattle.line.specs.Transaction.{legal, of_transaction}
use Rattle.journal.proofs.RecordLaws.{encode_snoc}
use Rattle.journal.proofs.StorageLaws.{put-journal, read-buffer, read-journal, read-trailer, read_records, stored-read, trailer_in_parts}
use Rattle.journal.specs.Encoding.{records_of, encode}
use Rattle.journal.specs.Storage.{transactions, size_of, trailer_in, decode_in, stored_in}
use Rattle.journal.specs.declared.cursor.Position.{Position}
use Rattle.append.specs.Append.{room_at, extended, behind, extend_to, append_to}

-- a journal that is read at the start of a buffer of bytes, and a legal transaction
module _ (buffer : List ℕ) (n : ℕ) (ts : List (List ℕ)) (t : List ℕ) (bytes : all byte buffer ≡ true) (read : decode_in buffer n ≡ done ts) (good : legal t ≡ true) where
  -- an append by the trailer alone is one to the journal
  pub extend-put : extend_to buffer n t ≡ (if transactions.room ts t then done (encode (transactions.put ts t)) else refused 8)
  unfolding extend_to
  extend-put = rw (read-trailer buffer n ts bytes read, (legal-parts t good).0) (go (transactions.room ts t))
    where
      go : (b : Bool) → (if not b then refused 8 else done (extended buffer (record { end = length (records_of ts); left = length ts }) t)) ≡ (if b then done (encode (transactions.put ts t)) else refused 8)
      go true = rw (read_records buffer n ts bytes read, encode_snoc ts t)
      go false = refl

  -- and so the append to a journal that is checked whole
  pub extend-append : extend_to buffer n t ≡ append_to buffer n t
  unfolding append_to
  extend-append = extend-put ∙ sym (rw (read, of_legal t _ good))

-- an append keeps the bytes before the end of the records
pub extend-keeps : (buffer : List ℕ) (n : ℕ) (t bytes : List ℕ) (p : Position) → trailer_in buffer n ≡ done p → extend_to buffer n t ≡ done bytes → take p.end (overlay bytes buffer) ≡ take p.end buffer
unfolding extend_to overlay
extend-keeps buffer n t bytes p opened e =
    let (_, within, long, _, _) = trailer_in_parts buffer n p opened in
    let made : behind buffer p t ≡ done bytes = rw opened at e in
    let (_, r) = passed (not (leb 1 (length t) && leb (length t) 2000)) 2 _ bytes made in
    let (_, same) = passed (not (room_at p t)) 8 _ bytes r in
    let whole : extended buffer p t ≡ bytes = cc in
    rw (← whole, append_assoc) (take_at (take p.end buffer) _ p.end (length-take-le p.end buffer (omega arith)))

-- after an append the longer journal is read
pub append-reads : (buffer : List ℕ) (n : ℕ) (t bytes : List ℕ) (ts : List (List ℕ)) → all byte buffer ≡ true → decode_in buffer n ≡ done ts → append_to buffer n t ≡ done bytes →
    (bytes ≡ encode (transactions.put ts t)) × (decode_in (overlay bytes buffer) (length bytes) ≡ done (transactions.put ts t))
unfolding append_to size_of stored_in
append-reads buffer n t bytes ts known read e =
    let (good, r) = of_done t _ bytes (rw read at e) in
    let (room, made) = met (transactions.room ts t) 8 _ bytes r in
    let whole : encode (transactions.put ts t) ≡ bytes = cc in
    let j = put-journal ts t (read-journal buffer n ts known read) good room in
    rw (← whole) (refl, stored-read buffer (transactions.put ts t) (read-buffer buffer n ts known read) j)

-- ── The answer of an append, by its tests ──

-- the journal is refused
pub append_uncounted : (buffer : List ℕ) (n : ℕ) (t : List ℕ) (k : ℕ) → map_done length (decode_in buffer n) ≡ refused k → append_to buffer n t ≡ refused k
unfolding append_to
append_uncounted buffer n t k c = rw (map-refused length (decode_in buffer n) k c)

-- the information is refused
pub append_unjudged : (buffer : List ℕ) (n : ℕ) (t : List ℕ) (count k : ℕ) → map_done length (decode_in buffer n) ≡ done count → of_transaction t (done (length t)) ≡ refused k → append_to buffer n t ≡ refused k
unfolding append_to
append_unjudged buffer n t count k c j = rw (counted-made (decode_in buffer n) count c).0 (of_refused t (length t) k _ j)

-- both are passed
pub extend-checked : (buffer : List ℕ) (n : ℕ) (t : List ℕ) (count k : ℕ) → all byte buffer ≡ true → map_done length (decode_in buffer n) ≡ done count → of_transaction t (done (length t)) ≡ done k → extend_to buffer n t ≡ append_to buffer n t
extend-checked buffer n t count k bytes c j =
    extend-append buffer n (output (decode_in buffer n)) t bytes (counted-made (decode_in buffer n) count c).0 (of_done t (done (length t)) k j).0
