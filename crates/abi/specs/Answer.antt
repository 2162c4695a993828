-- What a C caller gets of an outcome: two numbers, and the bytes in lent memory.
use Rattle.std.specs.Prelude.{List, ◌≡◌, ℕ, length}
use Rattle.line.specs.Answer.{Outcome, number_of, count_of, map_done, output, overlay}
use Rattle.abi.specs.declared.answer.Answer.{Answer}

-- the count and the number of what a call comes to (R-13.1)
abbrev pub answer_of : Outcome ℕ → Answer
answer_of o = record { count = count_of o; code = number_of o }

-- what a writer owes a C caller: the numbers of the outcome, and the memory with the bytes at its start (R-13.1)
pub record Puts (o : Outcome (List ℕ)) (r : Answer) (before after : List ℕ) : Type 0 where
  pub answers : r ≡ answer_of (map_done length o)
  pub leaves : after ≡ overlay (output o) before
