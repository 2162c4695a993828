-- A journal (document 01's book) is a list of legal transactions, oldest first. This is what its bytes are.
use Rattle.std.specs.Prelude.{Bool, true, ◌&&◌, List, [], ◌∷◌, ◌++◌, ◌≡◌, ℕ, ◌+◌, ◌/◌, ◌%◌, ◌≤◌, leb, length}
use Rattle.line.specs.Transaction.{legal}

-- a number in two bytes, high first (R-9.1)
abbrev pub two_bytes : ℕ → List ℕ
two_bytes n = (n / 256) ∷ (n % 256) ∷ []

-- a record: a transaction's information and, behind it, its length (R-9.1)
unfoldable pub record_of : List ℕ → List ℕ
record_of t = t ++ two_bytes (length t)

-- records one after the other, oldest first (R-9.1)
unfoldable pub records_of : List (List ℕ) → List ℕ
records_of [] = []
records_of (t ∷ ts) = record_of t ++ records_of ts

-- the bytes of a journal: its records, then the trailer: the number of records and the number of bytes of all records (R-9.1)
unfoldable pub encode : List (List ℕ) → List ℕ
encode ts = records_of ts ++ two_bytes (length ts) ++ two_bytes (length (records_of ts))

-- every one is a legal transaction (R-9.2)
unfoldable pub all_legal : List (List ℕ) → Bool
all_legal [] = true
all_legal (t ∷ ts) = legal t && all_legal ts

-- legal transactions within the limits: at most 64 records and 32,000 bytes of records (R-9.2)
pub record Journal (ts : List (List ℕ)) : Type 0 where
  pub each : all_legal ts ≡ true
  pub few : length ts ≤ 64
  pub small : length (records_of ts) ≤ 32000

-- bytes that are a journal's (R-9.2)
pub record WellFormed (bytes : List ℕ) : Type 0 where
  pub transactions : List (List ℕ)
  pub journal : Journal transactions
  pub encoded : bytes ≡ encode transactions

-- one record more, of n characters, behind so many records of so many bytes keeps the limits (R-9.3)
abbrev pub keeps_limits : ℕ → ℕ → ℕ → Bool
keeps_limits count size n = leb (count + 1) 64 && leb (size + (n + 2)) 32000

-- there is room for one more transaction of so many characters (R-9.3)
abbrev pub has_room : List (List ℕ) → ℕ → Bool
has_room ts n = keeps_limits (length ts) (length (records_of ts)) n
