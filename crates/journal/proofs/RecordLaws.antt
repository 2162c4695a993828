-- Records, one and several: their lengths, one more at the end, and one step back over a record's bytes, written and read.
use mathlib.Core.Bool.{true, not, and-eq-true_iff}
use mathlib.Core.List.{List, [], ◌∷◌, ◌++◌, append_assoc, append-nil}
use mathlib.Core.Path.{◌≡◌, sym, ap, ◌∙◌}
use Prim.Native.Nat.{ℕ, ◌+◌, ◌-◌, ◌≤◌, zero, suc, ◌<◌}
use native.Mathlib.Omega.{arith}
use borrow.Author.Tests.{ltb-false, le-ltb, not-false}
use lib.Dec.{ltb}
use lib.ListN.{length, take, drop, length-append, length-take, length-drop, take-append-drop, get_or}
use lib.Seq.{take_at, drop_at, take-take}
use Rattle.line.specs.Answer.{done}
use Rattle.line.specs.Character.{byte}
use Rattle.line.specs.Test.{all}
use Rattle.line.specs.Transaction.{legal}
use Rattle.journal.specs.Encoding.{two_bytes, record_of, records_of, encode, all_legal}
use Rattle.journal.specs.Walk.{but_last, last_number, Met, last_information, step_back}
use Rattle.line.proofs.OutcomeLaws.{passed}
use Rattle.journal.proofs.NumberLaws.{last-number, number-bytes}
use native.Mathlib.Nat.{not-suc-le-zero, le_of_suc-le-suc}

-- a record is two bytes longer than its transaction
pub record_length : (t : List ℕ) → length (record_of t) ≡ length t + 2
unfolding record_of
record_length t = length-append t (two_bytes (length t))

-- one transaction more is its record behind the records
pub records_snoc : (ts : List (List ℕ)) (t : List ℕ) → records_of (ts ++ t ∷ []) ≡ records_of ts ++ record_of t
unfolding records_of
records_snoc [] t = append-nil (record_of t)
records_snoc (s ∷ ts) t = rw (records_snoc ts t, append_assoc)

-- and makes them longer by the transaction and two bytes
pub records_length-snoc : (ts : List (List ℕ)) (t : List ℕ) → length (records_of (ts ++ t ∷ [])) ≡ length (records_of ts) + (length t + 2)
records_length-snoc ts t = rw (records_snoc ts t, length-append (records_of ts) (record_of t), record_length t)

-- lists of transactions joined are legal where each is
pub legal-append : (ts us : List (List ℕ)) → all_legal ts ≡ true → all_legal us ≡ true → all_legal (ts ++ us) ≡ true
unfolding all_legal
legal-append [] us h k = k
legal-append (t ∷ ts) us h k =
    let (p, q) = (and-eq-true_iff (legal t) (all_legal ts)).0 h in
    rw (p, legal-append ts us q k)

-- a journal's bytes are its records and four more
pub encode-length : (ts : List (List ℕ)) → length (encode ts) ≡ length (records_of ts) + 4
unfolding encode
encode-length ts = simp length-append (omega arith)

-- the bytes of a journal with one transaction more
pub encode_snoc : (ts : List (List ℕ)) (t : List ℕ) →
    encode (ts ++ t ∷ []) ≡ records_of ts ++ (record_of t ++ two_bytes (length ts + 1) ++ two_bytes (length (records_of ts) + (length t + 2)))
unfolding encode
encode_snoc ts t = rw (records_snoc ts t, length-append ts (t ∷ []), length-append (records_of ts) (record_of t), record_length t) (simp append_assoc)

-- a step back over a record meets its transaction, and the bytes before it
pub step_back_lem : (b t : List ℕ) → legal t ≡ true → step_back (b ++ record_of t) ≡ done (record { transaction = t; before = b })
unfolding step_back
step_back_lem b t h =
    let w : List ℕ = b ++ record_of t in
    let split : w ≡ b ++ t ++ two_bytes (length t) = unfold record_of in sym (append_assoc b t (two_bytes (length t))) in
    let size : length w ≡ length b + (length t + 2) = length-append b (record_of t) ∙ ap (λ n. length b + n) (record_length t) in
    let number : last_number w ≡ length t = rw split (last-number (b ++ t) (length t)) in
    let front : but_last 2 w ≡ b ++ t = ap (take (length w - 2)) split ∙ take_at (b ++ t) (two_bytes (length t)) (length w - 2) (rw (length-append b t) (omega arith)) in
    let information : last_information w ≡ t = rw front (drop_at b t (length w - (last_number w + 2)) (omega arith)) in
    let before : but_last (last_number w + 2) w ≡ b = take_at b (record_of t) (length w - (last_number w + 2)) (omega arith) in
    rw (le-ltb (length w) (last_number w + 2) (omega arith), information, before, h)

-- what a step back meets, in the bytes: it fits, and is the transaction of the length at their end
pub step-parts : (b : List ℕ) (m : Met) → step_back b ≡ done m →
    (last_number b + 2 ≤ length b) × (legal (last_information b) ≡ true) × (record { transaction = last_information b; before = but_last (last_number b + 2) b } ≡ m)
unfolding step_back
step-parts b m h =
    let (fits, r) = passed (ltb (length b) (last_number b + 2)) _ _ _ h in
    let (good, e) = passed (not (legal (last_information b))) _ _ _ r in
    (ltb-false (length b) (last_number b + 2) fits, not-false (legal (last_information b)) good, cc)

-- what a step back meets lies in the bytes one behind the other, before the last two; the length there is the transaction's
pub step-split : (b : List ℕ) (m : Met) → step_back b ≡ done m →
    (b ≡ m.before ++ (m.transaction ++ drop (length b - 2) b)) × (length m.transaction ≡ last_number b) × (legal m.transaction ≡ true)
step-split b m h =
    let (fits, good, e) = step-parts b m h in
    let k : ℕ = length b - (last_number b + 2) in
    let two : List ℕ = drop (length b - 2) b in
    let front : take k (but_last 2 b) ≡ take k b = take-take k (length b - 2) b (omega arith) in
    let size : length (last_information b) ≡ last_number b = simp (length-drop, length-take) (omega arith) in
    let joined : take k b ++ last_information b ≡ but_last 2 b = rw (← front) (take-append-drop k (but_last 2 b)) in
    let whole : b ≡ take k b ++ (last_information b ++ two) = sym (take-append-drop (length b - 2) b) ∙ ap (λ f. f ++ two) (sym joined) ∙ append_assoc (take k b) (last_information b) two in
    rw (← e) (whole, size, good)

-- what a step back meets is a record
pub step_record : (b : List ℕ) (m : Met) → all byte b ≡ true → step_back b ≡ done m → b ≡ m.before ++ record_of m.transaction
unfolding record_of
step_record b m a h =
    let (fits, _, _) = step-parts b m h in
    let (whole, size, _) = step-split b m h in
    let number : drop (length b - 2) b ≡ two_bytes (length m.transaction) = number-bytes b a (omega arith) ∙ ap two_bytes (sym size) in
    whole ∙ ap (λ d. m.before ++ (m.transaction ++ d)) number

-- where all are legal, each is
pub legal-at : (ts : List (List ℕ)) (i : ℕ) → all_legal ts ≡ true → i < length ts → legal (get_or ts i []) ≡ true
unfolding all_legal
legal-at [] i e h = absurd (not-suc-le-zero h)
legal-at (t ∷ ts) zero e h = ((and-eq-true_iff (legal t) (all_legal ts)).0 e).0
legal-at (t ∷ ts) (suc i) e h = legal-at ts i ((and-eq-true_iff (legal t) (all_legal ts)).0 e).1 (le_of_suc-le-suc h)
