-- Admit, then append: what becomes of information that is offered to a journal.
use Rattle.std.specs.Prelude.{◌&&◌, List, [], ◌≡◌, ℕ, length, Option, Some, None, Result, if◌then◌else◌}
use Rattle.line.specs.Answer.{Outcome, done, refused, outcome_of, map_done, and_then, overlay}
use Rattle.line.specs.declared.answer.Refusal.{Refusal}
use Rattle.line.specs.Transaction.{of_transaction}
use Rattle.journal.specs.Storage.{trailer_in}
use Rattle.append.specs.Append.{room_at, extended}
use Rattle.admission.specs.Content.{content}

-- the bytes of a journal with the information stored, where content and room admit it: 1 and 7 by the buffer and the trailer,
-- 2, 3 and 6 where it is no transaction (R-8.3)
unfoldable pub admit_to : ℕ → List ℕ → List ℕ → ℕ → List ℕ → Outcome (Option (List ℕ))
admit_to most pagers buffer n t =
    and_then (trailer_in buffer n) (λ p. of_transaction t (done (
    if content most pagers t && room_at p t then Some (extended buffer p t) else None)))

-- the length of what is stored
abbrev pub stored_length : Option (List ℕ) → Option ℕ
stored_length (Some bytes) = Some (length bytes)
stored_length None = None

-- the bytes that are stored: none where the information is rejected or refused
abbrev pub stored_bytes : Outcome (Option (List ℕ)) → List ℕ
stored_bytes (done (Some bytes)) = bytes
stored_bytes (done None) = []
stored_bytes (refused n) = []

-- what admission owes: the answer, 0 with the journal's new length or with none where the information is rejected, and the buffer with
-- what is stored laid over it (R-8.3)
pub record Admits (o : Outcome (Option (List ℕ))) (r : Result (Option ℕ) Refusal) (before after : List ℕ) : Type 0 where
  pub answers : outcome_of r ≡ map_done stored_length o
  pub leaves : after ≡ overlay (stored_bytes o) before
