-- One transaction more at the end of a journal: behind its trailer's numbers, and in a journal that is checked whole.
use Rattle.std.specs.Prelude.{Bool, not, ◌&&◌, List, ◌++◌, ℕ, ◌+◌, leb, length, take, if◌then◌else◌}
use Rattle.line.specs.Answer.{Outcome, done, refused, and_then}
use Rattle.line.specs.Transaction.{of_transaction}
use Rattle.journal.specs.Encoding.{two_bytes, record_of, encode, keeps_limits}
use Rattle.journal.specs.Storage.{transactions, trailer_in, decode_in}
use Rattle.journal.specs.declared.cursor.Position.{Position}

-- the record of a transaction, and the trailer behind it: so many records of so many bytes
abbrev pub tail_of : List ℕ → ℕ → ℕ → List ℕ
tail_of t count size = record_of t ++ two_bytes count ++ two_bytes size

-- there is room for a transaction behind the records that end at a position (R-9.6)
abbrev pub room_at : Position → List ℕ → Bool
room_at p t = keeps_limits p.left p.end (length t)

-- the bytes up to a position, with one record more and a new trailer (R-9.6)
abbrev pub extended : List ℕ → Position → List ℕ → List ℕ
extended buffer p t = take p.end buffer ++ tail_of t (p.left + 1) (p.end + (length t + 2))

-- a record behind the records that end at a position: 2 where no transaction has this length, 8 where there is no room (R-9.6)
abbrev pub behind : List ℕ → Position → List ℕ → Outcome (List ℕ)
behind buffer p t =
    if not (leb 1 (length t) && leb (length t) 2000) then refused 2
    else if not (room_at p t) then refused 8
    else done (extended buffer p t)

-- the bytes of a journal with one record more, by its trailer alone: 1 and 7 by the buffer and the trailer, then 2 and 8
-- (R-9.6)
unfoldable pub extend_to : List ℕ → ℕ → List ℕ → Outcome (List ℕ)
extend_to buffer n t = and_then (trailer_in buffer n) (λ p. behind buffer p t)

-- the bytes of a journal with one transaction more: 1 and 7 by the buffer and the journal, 2, 3 and 6 by the information,
-- 8 where there is no room (R-9.5)
unfoldable pub append_to : List ℕ → ℕ → List ℕ → Outcome (List ℕ)
append_to buffer n t =
    and_then (decode_in buffer n) (λ ts. of_transaction t (
    if transactions.room ts t then done (encode (transactions.put ts t)) else refused 8))
