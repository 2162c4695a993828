-- Walking back over records: over those of legal transactions it gives them, newest first; and what it gives, the bytes are the records of.
use mathlib.Core.Bool.{true, and-eq-true_iff}
use mathlib.Core.List.{List, [], ◌∷◌, reverse, reverse-cons, reverse-reverse}
use mathlib.Core.Path.{◌≡◌, refl, ap}
use Prim.Native.Nat.{ℕ, zero, suc}
use borrow.Author.Tests.{eqb-true}
use lib.Dec.{eqb}
use lib.ListN.{length, length-reverse}
use Rattle.line.specs.Answer.{done}
use Rattle.line.specs.Character.{byte}
use Rattle.line.specs.Test.{all}
use Rattle.line.specs.Transaction.{legal}
use Rattle.journal.specs.Encoding.{record_of, records_of, all_legal}
use Rattle.journal.specs.Walk.{Met, step_back, walk_back}
use Rattle.line.proofs.AllLaws.{all_front}
use Rattle.line.proofs.ListLaws.{length_none}
use Rattle.line.proofs.OutcomeLaws.{then_done, map-done, met}
use Rattle.journal.proofs.RecordLaws.{records_snoc, legal-append, step_back_lem, step_record, step-split}

-- transactions are legal the other way round too
pub legal-reverse : (ts : List (List ℕ)) → all_legal ts ≡ true → all_legal (reverse ts) ≡ true
unfolding all_legal
legal-reverse [] h = refl
legal-reverse (t ∷ ts) h =
    let (p, q) = (and-eq-true_iff (legal t) (all_legal ts)).0 h in
    rw (reverse-cons t ts) (legal-append (reverse ts) (t ∷ []) (legal-reverse ts q) (rw p))

-- the records of transactions given newest first are walked back to them
walk_reversed : (rs : List (List ℕ)) → all_legal rs ≡ true → walk_back (length rs) (records_of (reverse rs)) ≡ done rs
unfolding walk_back records_of all_legal
walk_reversed [] h = refl
walk_reversed (r ∷ rs) h =
    let (p, q) = (and-eq-true_iff (legal r) (all_legal rs)).0 h in
    rw (reverse-cons r rs, records_snoc (reverse rs) r, step_back_lem (records_of (reverse rs)) r p, walk_reversed rs q)

-- the records of legal transactions are walked back to them, newest first
pub walk_records : (ts : List (List ℕ)) → all_legal ts ≡ true → walk_back (length ts) (records_of ts) ≡ done (reverse ts)
walk_records ts h = rw (reverse-reverse ts, length-reverse ts) at (walk_reversed (reverse ts) (legal-reverse ts h))

-- a walk of no steps meets nothing and gives nothing
walk_end : (b : List ℕ) (rs : List (List ℕ)) → walk_back zero b ≡ done rs → (b ≡ []) × (rs ≡ [])
unfolding walk_back
walk_end b rs h =
    let (none, e) = met (eqb (length b) 0) _ _ _ h in
    (length_none b (eqb-true (length b) 0 none), cc)

-- a walk's first step, and the rest of it
walk_step : (k : ℕ) (b : List ℕ) (rs : List (List ℕ)) → walk_back (suc k) b ≡ done rs →
    (m : Met) × (us : List (List ℕ)) × (step_back b ≡ done m) × (walk_back k m.before ≡ done us) × (m.transaction ∷ us ≡ rs)
unfolding walk_back
walk_step k b rs h =
    let (m, step, r) = then_done (step_back b) _ rs h in
    let (us, rest, e) = map-done _ (walk_back k m.before) rs r in
    (m, us, step, rest, e)

-- a walk gives as many transactions as it takes steps
pub walk-length : (k : ℕ) (b : List ℕ) (rs : List (List ℕ)) → walk_back k b ≡ done rs → length rs ≡ k
walk-length zero b rs h = ap length (walk_end b rs h).1
walk-length (suc k) b rs h =
    let (m, us, step, rest, e) = walk_step k b rs h in
    rw (← e, walk-length k m.before us rest)

-- what a walk gives is legal
pub walk-legal : (k : ℕ) (b : List ℕ) (rs : List (List ℕ)) → walk_back k b ≡ done rs → all_legal rs ≡ true
unfolding all_legal
walk-legal zero b rs h = rw (walk_end b rs h).1
walk-legal (suc k) b rs h =
    let (m, us, step, rest, e) = walk_step k b rs h in
    rw (← e, (step-split b m step).2, walk-legal k m.before us rest)

-- the bytes that are walked over are its records
pub walk-bytes : (k : ℕ) (b : List ℕ) (rs : List (List ℕ)) → all byte b ≡ true → walk_back k b ≡ done rs → b ≡ records_of (reverse rs)
unfolding records_of
walk-bytes zero b rs a h =
    let (none, e) = walk_end b rs h in
    rw (none, e)
walk-bytes (suc k) b rs a h =
    let (m, us, step, rest, e) = walk_step k b rs h in
    let whole = step_record b m a step in
    let t : List ℕ = m.transaction in
    let front = walk-bytes k m.before us (all_front byte m.before (record_of t) (rw whole at a)) rest in
    rw (← e, reverse-cons t us, records_snoc (reverse us) t, ← front) whole
