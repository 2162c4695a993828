-- Walking back from the trailer (document 01, "The book"): what any bytes hold.
use Rattle.std.specs.Prelude.{not, List, [], ◌∷◌, reverse, ℕ, zero, suc, ◌+◌, ◌-◌, ◌*◌, ltb, eqb, length, take, drop, get_or, Option, Some, None, Result, if◌then◌else◌}
use Rattle.line.specs.Answer.{Outcome, done, refused, outcome_of, map_done, and_then}
use Rattle.line.specs.Transaction.{legal}
use Rattle.line.specs.declared.answer.Refusal.{Refusal}
use Rattle.journal.specs.declared.cursor.Place.{Place}
use Rattle.journal.specs.declared.cursor.Position.{Position}

-- all but the last n bytes
abbrev pub but_last : ℕ → List ℕ → List ℕ
but_last n b = take (length b - n) b

-- the number in the last two bytes, high first
abbrev pub last_number : List ℕ → ℕ
last_number b = get_or b (length b - 2) 0 * 256 + get_or b (length b - 1) 0

-- a record met on the way back: its transaction, and the bytes before the record
pub record Met : Type 0 where
  pub transaction : List ℕ
  pub before : List ℕ

-- the information of the record that ends where the bytes end
abbrev pub last_information : List ℕ → List ℕ
last_information b = drop (length b - (last_number b + 2)) (but_last 2 b)

-- one step back from the end of the records: 7 where it leaves the journal or meets an illegal transaction (R-9.2)
unfoldable pub step_back : List ℕ → Outcome Met
step_back b =
    if ltb (length b) (last_number b + 2) then refused 7
    else if not (legal (last_information b)) then refused 7
    else done (record { transaction = last_information b; before = but_last (last_number b + 2) b })

-- so many steps back, that meet exactly these bytes: the transactions, newest first (R-9.2)
unfoldable pub walk_back : ℕ → List ℕ → Outcome (List (List ℕ))
walk_back zero b = if eqb (length b) 0 then done [] else refused 7
walk_back (suc k) b = and_then (step_back b) (λ m. map_done (λ ts. m.transaction ∷ ts) (walk_back k m.before))

-- where the walk starts: the end of the records and their number, as the trailer has them. 7 where it is past the limits or
-- disagrees with the length (R-9.2)
unfoldable pub trailer : List ℕ → Outcome Position
trailer b =
    if ltb (length b) 4 then refused 7
    else if ltb 64 (last_number (but_last 2 b)) then refused 7
    else if ltb 32000 (last_number b) then refused 7
    else if not (eqb (length b) (last_number b + 4)) then refused 7
    else done (record { end = last_number b; left = last_number (but_last 2 b) })

-- the transactions that the bytes of a journal hold, newest first: 7 where they are not well formed (R-9.2)
abbrev pub newest_first : List ℕ → Outcome (List (List ℕ))
newest_first b = and_then (trailer b) (λ p. walk_back p.left (take p.end b))

-- the same, oldest first (R-9.2)
abbrev pub decode : List ℕ → Outcome (List (List ℕ))
decode b = map_done reverse (newest_first b)

-- ── The cursor ──

-- the place of a record that was met, and the position behind it (R-9.8)
abbrev pub place_of : ℕ → Met → Place
place_of left m =
    record {
      start = length m.before;
      length = length m.transaction;
      next = record { end = length m.before; left = left - 1 };
    }

-- a step from a position: 9 where it lies outside the bytes; at the end all bytes are met, else 7; 7 too as one step back
-- has it (R-9.8)
unfoldable pub step_from : List ℕ → Position → Outcome (Option Place)
step_from b p =
    if ltb (length b) p.end then refused 9
    else if eqb p.left 0 then (if eqb p.end 0 then done None else refused 7)
    else map_done (λ m. Some (place_of p.left m)) (step_back (take p.end b))

-- where a cursor stands at first: at the newest record, by the trailer (R-9.8)
abbrev pub first_step : List ℕ → Outcome (Option Place)
first_step b = and_then (trailer b) (step_from b)

-- the step on from a place that was found; from the end there is none (R-9.8)
abbrev pub step_past : List ℕ → Option Place → Outcome (Option Place)
step_past b None = done None
step_past b (Some p) = step_from b p.next

-- where a cursor stands after a step on from where it stands; a refusal stands (R-9.8)
abbrev pub step_on : List ℕ → Result (Option Place) Refusal → Outcome (Option Place)
step_on b at = and_then (outcome_of at) (step_past b)

-- where a cursor stands after so many steps from the newest record (R-9.8)
unfoldable pub cursor_at : List ℕ → ℕ → Outcome (Option Place)
cursor_at b zero = first_step b
cursor_at b (suc k) = and_then (cursor_at b k) (step_past b)
