-- The bytes of a journal: written and read back they give its transactions, and bytes that are read are the bytes of what they give.
-- So bytes are well formed where they are read, and for one list of transactions only.
use mathlib.Core.Bool.{true, not}
use mathlib.Core.List.{List, ◌++◌, append_assoc, reverse, reverse-reverse}
use mathlib.Core.Path.{◌≡◌, refl, sym, ap, ◌∙◌}
use Prim.Native.Nat.{ℕ, ◌+◌, ◌-◌, ◌≤◌}
use native.Mathlib.Omega.{arith}
use borrow.Author.Tests.{ltb-false, le-ltb, eqb-true, eq-eqb, not-false}
use lib.Dec.{ltb, eqb}
use lib.ListN.{length, take, length-append, length-take, length-reverse}
use lib.Seq.{length-take-le, take_at, take-take}
use Rattle.line.specs.Answer.{done}
use Rattle.line.specs.Character.{byte}
use Rattle.line.specs.Test.{all}
use Rattle.journal.specs.declared.cursor.Position.{Position}
use Rattle.journal.specs.Encoding.{two_bytes, records_of, encode, Journal, WellFormed, all_legal}
use Rattle.journal.specs.Walk.{but_last, last_number, walk_back, trailer, newest_first, decode}
use Rattle.line.proofs.AllLaws.{all_take}
use Rattle.journal.proofs.NumberLaws.{last-number, number-split}
use Rattle.line.proofs.OutcomeLaws.{then_done, map-done, passed}
use Rattle.journal.proofs.RecordLaws.{encode-length}
use Rattle.journal.proofs.WalkLaws.{legal-reverse, walk_records, walk-length, walk-bytes, walk-legal}

-- a journal's trailer is read as it was written
pub trailer-encode : (ts : List (List ℕ)) → Journal ts → trailer (encode ts) ≡ done (record { end = length (records_of ts); left = length ts })
unfolding trailer encode
trailer-encode ts j =
    let r : List ℕ = records_of ts in
    let front : List ℕ = r ++ two_bytes (length ts) in
    let n : ℕ = length (encode ts) in
    let size : n ≡ length r + 4 = encode-length ts in
    let end : last_number (encode ts) ≡ length r = last-number front (length r) in
    let before : but_last 2 (encode ts) ≡ front = take_at front (two_bytes (length r)) (n - 2) (length-append r (two_bytes (length ts)) ∙ omega arith) in
    let count : last_number (but_last 2 (encode ts)) ≡ length ts = ap last_number before ∙ last-number r (length ts) in
    rw (le-ltb n 4 (omega arith), count, end, le-ltb 64 (length ts) j.few, le-ltb 32000 (length r) j.small, eq-eqb n (length r + 4) size)

-- a journal's bytes begin with its records
pub encode_records : (ts : List (List ℕ)) → take (length (records_of ts)) (encode ts) ≡ records_of ts
unfolding encode
encode_records ts = rw append_assoc (take_at (records_of ts) (two_bytes (length ts) ++ two_bytes (length (records_of ts))) (length (records_of ts)) refl)

-- what is encoded is decoded again
pub decode-encode : (ts : List (List ℕ)) → Journal ts → decode (encode ts) ≡ done ts
decode-encode ts j = rw (trailer-encode ts j, encode_records ts, walk_records ts j.each, reverse-reverse ts)

-- what a trailer that is read has passed
pub trailer-parts : (b : List ℕ) (p : Position) → trailer b ≡ done p →
    (last_number (but_last 2 b) ≤ 64) × (last_number b ≤ 32000) × (length b ≡ last_number b + 4) × (record { end = last_number b; left = last_number (but_last 2 b) } ≡ p)
unfolding trailer
trailer-parts b p h =
    let (_, q) = passed (ltb (length b) 4) _ _ _ h in
    let (few, r) = passed (ltb 64 (last_number (but_last 2 b))) _ _ _ q in
    let (small, s) = passed (ltb 32000 (last_number b)) _ _ _ r in
    let (size, e) = passed (not (eqb (length b) (last_number b + 4))) _ _ _ s in (
      ltb-false 64 (last_number (but_last 2 b)) few,
      ltb-false 32000 (last_number b) small,
      eqb-true (length b) (last_number b + 4) (not-false (eqb (length b) (last_number b + 4)) size),
      cc,
    )

-- the position of a trailer that is read lies in the journal
pub trailer-inside : (b : List ℕ) (p : Position) → trailer b ≡ done p → p.end ≤ length b
trailer-inside b p e =
    let (_, _, size, same) = trailer-parts b p e in
    rw (← same) (omega arith)

-- bytes that are read newest first: their trailer, and the walk back from it
pub newest_parts : (b : List ℕ) (rs : List (List ℕ)) → newest_first b ≡ done rs →
    (last_number b ≤ 32000) × (length b ≡ last_number b + 4) × (length rs ≤ 64) × (length rs ≡ last_number (but_last 2 b)) × (walk_back (length rs) (take (last_number b) b) ≡ done rs)
newest_parts b rs h =
    let (p, t, w) = then_done (trailer b) _ rs h in
    let (few, small, size, e) = trailer-parts b p t in
    let walk : walk_back (last_number (but_last 2 b)) (take (last_number b) b) ≡ done rs = rw (← e) at w in
    let count : length rs ≡ last_number (but_last 2 b) = walk-length _ _ rs walk in
    (small, size, rw count few, count, rw count walk)

-- bytes are their records, and the two numbers of the trailer
trailer-split : (b : List ℕ) → all byte b ≡ true → length b ≡ last_number b + 4 → b ≡ take (last_number b) b ++ two_bytes (last_number (but_last 2 b)) ++ two_bytes (last_number b)
trailer-split b a h =
    let front : List ℕ = but_last 2 b in
    let size : length front ≡ last_number b + 2 = simp length-take (omega arith) in
    let place : length front - 2 ≡ last_number b = omega arith in
    let records : but_last 2 front ≡ take (last_number b) b = rw place (take-take (last_number b) (length b - 2) b (omega arith)) in
    let inner : front ≡ take (last_number b) b ++ two_bytes (last_number front) = rw records at (number-split front (all_take byte (length b - 2) b a) (omega arith)) in
    number-split b a (omega arith) ∙ ap (λ f. f ++ two_bytes (last_number b)) inner

-- bytes that are decoded are those of what they give, and that is a journal
pub encode-decode : (b : List ℕ) (ts : List (List ℕ)) → all byte b ≡ true → decode b ≡ done ts → (b ≡ encode ts) × Journal ts
unfolding encode
encode-decode b ts a h =
    let (rs, newest, e) = map-done reverse (newest_first b) ts h in
    let (small, size, few, count, walk) = newest_parts b rs newest in
    let bytes = walk-bytes (length rs) (take (last_number b) b) rs (all_take byte (last_number b) b a) walk in
    let good = walk-legal (length rs) (take (last_number b) b) rs walk in
    let records : take (last_number b) b ≡ records_of ts = rw e at bytes in
    let end : last_number b ≡ length (records_of ts) = sym (length-take-le (last_number b) b (omega arith)) ∙ ap length records in
    let same : length rs ≡ length ts = sym (length-reverse rs) ∙ ap length e in
    let left : last_number (but_last 2 b) ≡ length ts = sym count ∙ same in
    (trailer-split b a size ∙ rw (records, left, end), record { each = rw e at (legal-reverse rs good); few = omega arith; small = omega arith })

-- bytes that are decoded are well formed
pub well_formed : (b : List ℕ) (ts : List (List ℕ)) → all byte b ≡ true → decode b ≡ done ts → WellFormed b
well_formed b ts a h =
    let (bytes, j) = encode-decode b ts a h in
    record { transactions = ts; journal = j; encoded = bytes }

-- well formed bytes are decoded, to the transactions that they are the bytes of
pub well_formed_decodes : {b : List ℕ} → (w : WellFormed b) → decode b ≡ done w.transactions
well_formed_decodes w = rw w.encoded (decode-encode w.transactions w.journal)

-- bytes are well formed for one list of transactions only
pub only_one : {b : List ℕ} (v w : WellFormed b) → v.transactions ≡ w.transactions
only_one v w = cc (well_formed_decodes v, well_formed_decodes w)

-- the transactions of bytes that are decoded are legal
pub decode-legal : (b : List ℕ) (ts : List (List ℕ)) → decode b ≡ done ts → all_legal ts ≡ true
decode-legal b ts h =
    let (rs, newest, e) = map-done reverse (newest_first b) ts h in
    let (p, _, walk) = then_done (trailer b) _ rs newest in
    rw (← e) (legal-reverse rs (walk-legal p.left (take p.end b) rs walk))
