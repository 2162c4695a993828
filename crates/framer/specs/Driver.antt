-- What a driver does that feeds bytes piece after piece, and what it gets.
use Rattle.std.specs.Prelude.{List, [], ◌∷◌, ◌≡◌, ℕ, drop, Some, None}
use Rattle.line.specs.Answer.{done}
use Rattle.framer.specs.Framing.{Feeding}
use Rattle.framer.specs.State.{state_of, fed_to}
use Rattle.framer.specs.declared.Framer.{Framer}

-- from a state, pieces fed in order, each until all its bytes are used: the strings handed over, and the state left (R-14.8)
pub data Drives : Framer → List (List ℕ) → List (List ℕ) → Framer → Type 0 where
  -- no piece is left
  over : {s : Framer} → Drives s [] [] s
  -- nothing is left of the piece, or it was empty: it need not be fed
  spent : {s s' : Framer} {ps ss : List (List ℕ)} → Drives s ps ss s' → Drives s ([] ∷ ps) ss s'
  -- the piece completes no string: all of it is used, and the next is fed
  waits : {s s' : Framer} {p : List ℕ} {ps ss : List (List ℕ)} {f : Feeding} (room : ℕ) → fed_to s p room ≡ done f → f.string ≡ None →
      Drives (state_of f.held) ps ss s' → Drives s (p ∷ ps) ss s'
  -- the piece completes a string: what is left of it is fed
  hands : {s s' : Framer} {p x : List ℕ} {ps ss : List (List ℕ)} {f : Feeding} (room : ℕ) → fed_to s p room ≡ done f → f.string ≡ Some x →
      Drives (state_of f.held) (drop f.used p ∷ ps) ss s' → Drives s (p ∷ ps) (x ∷ ss) s'
