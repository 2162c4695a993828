-- Reading records through the cursor: what stepping on from a position hands out.
use Rattle.std.specs.Prelude.{List, [], ◌∷◌, ℕ, zero, suc, take, drop, Option, Some, None}
use Rattle.line.specs.Answer.{Outcome, done, refused, map_done, and_then}
use Rattle.journal.specs.declared.cursor.Place.{Place}
use Rattle.journal.specs.declared.cursor.Position.{Position}
use Rattle.journal.specs.Walk.{walk_back, step_from}

-- the transaction at a place in the bytes (R-9.8)
abbrev pub transaction_at : List ℕ → Place → List ℕ
transaction_at b p = take p.length (drop p.start b)

-- the transactions that the walk back from a position meets, newest first
abbrev pub walk_from : List ℕ → Position → Outcome (List (List ℕ))
walk_from b p = walk_back p.left (take p.end b)

-- the transaction that a step hands out and the rest behind it, nothing where it is the end
abbrev pub hand_on : List ℕ → (Position → Outcome (List (List ℕ))) → Option Place → Outcome (List (List ℕ))
hand_on b rest None = done []
hand_on b rest (Some p) = map_done (λ ts. transaction_at b p ∷ ts) (rest p.next)

-- the transactions that stepping from a position hands out until the end, newest first: 7 where so many steps do not reach
-- it (R-9.8)
unfoldable pub handed_out : ℕ → List ℕ → Position → Outcome (List (List ℕ))
handed_out zero b p = refused 7
handed_out (suc k) b p = and_then (step_from b p) (hand_on b (handed_out k b))
