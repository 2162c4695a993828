-- A journal to those who store in it: room and one record more; and today's journal, a list of transactions, at the start of
-- a lent buffer.
use Rattle.std.specs.Prelude.{Bool, not, List, [], ◌∷◌, ◌++◌, ℕ, ltb, eqb, length, take, if◌then◌else◌}
use Rattle.line.specs.Answer.{Outcome, done, refused, overlay}
use Rattle.journal.specs.Encoding.{encode, has_room}
use Rattle.journal.specs.Walk.{trailer, decode}
use Rattle.journal.specs.declared.cursor.Position.{Position}

-- a kind of journal: whether it has room for a transaction, and the journal with that transaction's record more (R-9.3)
pub record Storage (J : Type 0) : Type 0 where
  pub room : J → List ℕ → Bool
  pub put : J → List ℕ → J

-- the journal that is a list of transactions, oldest first (R-9.3)
abbrev pub transactions : Storage (List (List ℕ))
transactions = record { room = λ ts t. has_room ts (length t); put = λ ts t. ts ++ t ∷ [] }

-- how many bytes a journal takes (R-9.4)
unfoldable pub size_of : List (List ℕ) → ℕ
size_of ts = length (encode ts)

-- the buffer that a journal grows in has 32,004 bytes (R-9.4)
unfoldable pub is_buffer : List ℕ → Bool
is_buffer buffer = eqb (length buffer) 32004

-- what is read of the first n bytes of a buffer: 1 where the buffer has the wrong size, 7 where it has fewer bytes (R-9.4)
abbrev pub in_buffer : {A : Type 0} → (List ℕ → Outcome A) → List ℕ → ℕ → Outcome A
in_buffer read buffer n =
    if not (is_buffer buffer) then refused 1
    else if ltb (length buffer) n then refused 7
    else read (take n buffer)

-- where the records of a journal of n bytes at the start of a buffer end, and how many they are, by its trailer alone (R-9.4)
unfoldable pub trailer_in : List ℕ → ℕ → Outcome Position
trailer_in = in_buffer trailer

-- the transactions of a journal of n bytes at the start of a buffer (R-9.4)
unfoldable pub decode_in : List ℕ → ℕ → Outcome (List (List ℕ))
decode_in = in_buffer decode

-- what a buffer holds once a journal is stored in it: its bytes, then what was there; a refusal stores nothing (R-9.4)
unfoldable pub stored_in : Outcome (List (List ℕ)) → List ℕ → List ℕ
stored_in (done ts) buffer = overlay (encode ts) buffer
stored_in (refused n) buffer = buffer
