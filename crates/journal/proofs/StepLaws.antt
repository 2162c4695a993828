-- One step back as the code makes it: the number at a place, and the record that ends where the first bytes end.
use Rattle.std.specs.Prelude.{Some, if◌then◌else◌}
use mathlib.Core.Bool.{true, false, not}
use mathlib.Core.List.{List}
use mathlib.Core.Path.{◌≡◌, refl, ◌∙◌}
use Prim.Native.Nat.{ℕ, ◌+◌, ◌-◌, ◌*◌, ◌≤◌, ◌<◌}
use native.Mathlib.Omega.{arith}
use borrow.Author.Tests.{lt-ltb, le-ltb}
use lib.ListN.{length, get_or, take, drop, length-drop}
use lib.Seq.{drop_at, get_or-take, length-take-le, take-add, take-length, take-take}
use Rattle.line.specs.Answer.{Outcome, done, refused, map_done}
use Rattle.line.specs.Transaction.{legal}
use Rattle.journal.specs.Walk.{Met, but_last, last_number, step_back, place_of}

-- the last number of the first bytes is the number at the place two before their end
pub number_at : (b : List ℕ) (end at : ℕ) → end ≡ at + 2 → end ≤ length b → last_number (take end b) ≡ get_or b at 0 * 256 + get_or b (at + 1) 0
number_at b end at e h =
    let two : end - 2 ≡ at = omega arith in
    let one : end - 1 ≡ at + 1 = omega arith in
    rw (length-take-le end b h, two, one, get_or-take end b at 0 (omega arith), get_or-take end b (at + 1) 0 (omega arith))

-- the two numbers of the trailer
module _ (b : List ℕ) (h : 4 ≤ length b) where
  -- the number of records stands four bytes before the end
  pub trailer-left : last_number (but_last 2 b) ≡ get_or b (length b - 4) 0 * 256 + get_or b (length b - 4 + 1) 0
  trailer-left = number_at b (length b - 2) (length b - 4) (omega arith) (omega arith)

  -- the number of their bytes stands two bytes before the end
  pub trailer-end : last_number b ≡ get_or b (length b - 2) 0 * 256 + get_or b (length b - 2 + 1) 0
  trailer-end = rw take-length at (number_at b (length b) (length b - 2) (omega arith) (omega arith))

-- a part of a list, cut off from either end
drop-take : (a n : ℕ) (b : List ℕ) → a ≤ length b → drop a (take (a + n) b) ≡ take n (drop a b)
drop-take a n b h = rw (take-add a n b) (drop_at (take a b) (take n (drop a b)) a (length-take-le a b h))

-- one step back from the end of the first bytes
module _ (b : List ℕ) (end : ℕ) (h : end ≤ length b) where
  -- there is no room for a length
  pub step-short : end < 2 → step_back (take end b) ≡ refused 7
  unfolding step_back
  step-short s =
      let l = length-take-le end b h in
      rw (lt-ltb (length (take end b)) (last_number (take end b) + 2) (omega arith))

  -- the record would begin before the journal
  pub step-out : (n : ℕ) → last_number (take end b) ≡ n → end < n + 2 → step_back (take end b) ≡ refused 7
  unfolding step_back
  step-out n e s = rw (e, length-take-le end b h, lt-ltb end (n + 2) s)

  -- the record lies in the journal: its information decides
  step_in : (n : ℕ) → last_number (take end b) ≡ n → n + 2 ≤ end →
      step_back (take end b) ≡
      (if not (legal (take n (drop (end - (n + 2)) b))) then refused 7
      else done (record { transaction = take n (drop (end - (n + 2)) b); before = take (end - (n + 2)) b }))
  unfolding step_back
  step_in n e s =
      let start = end - (n + 2) in
      let two : end - 2 ≡ start + n = omega arith in
      rw (e, length-take-le end b h, le-ltb end (n + 2) s, take-take start end b (omega arith), take-take (end - 2) end b (omega arith), two, drop-take start n b (omega arith))

  -- the information is no transaction
  pub step_illegal : (n : ℕ) → last_number (take end b) ≡ n → n + 2 ≤ end → legal (take n (drop (end - (n + 2)) b)) ≡ false → step_back (take end b) ≡ refused 7
  step_illegal n e s l = step_in n e s ∙ rw l

  -- the information is a transaction
  pub step-legal : (n : ℕ) → last_number (take end b) ≡ n → n + 2 ≤ end → legal (take n (drop (end - (n + 2)) b)) ≡ true →
      step_back (take end b) ≡ done (record { transaction = take n (drop (end - (n + 2)) b); before = take (end - (n + 2)) b })
  step-legal n e s l = step_in n e s ∙ rw l

-- the place of a record that lies in the bytes
pub place_of_lem : (b : List ℕ) (left start n : ℕ) → start + n ≤ length b →
    place_of left (record { transaction = take n (drop start b); before = take start b }) ≡ record { start = start; length = n; next = record { end = start; left = left - 1 } }
place_of_lem b left start n h = rw (length-take-le start b (omega arith), length-take-le n (drop start b) (rw length-drop (omega arith)))

-- the step that found a place found some place
pub found-some : (left : ℕ) (o : Outcome Met) → map_done (λ m. Some (place_of left m)) o ≡ map_done (λ q. Some q) (map_done (place_of left) o)
found-some left (done m) = refl
found-some left (refused n) = refl
