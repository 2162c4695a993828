-- What the functions inside a feeding ask and owe.
use Rattle.std.specs.Prelude.{true, List, ◌≡◌, ℕ, ◌+◌, ◌≤◌, length, Err}
use Rattle.line.specs.declared.answer.Refusal.{Refusal}
use Rattle.framer.specs.Framing.{Feeding, unfinished}
use Rattle.framer.specs.declared.Fed.{Fed}
use Rattle.framer.specs.declared.Framer.{Framer}

-- a refusal: no byte is used, and the state stays
abbrev pub refusing : Framer → Refusal → Fed
refusing s q = record { outcome = Err q; used = 0; state = s }

-- the same feeding, counted from so many bytes further back
abbrev pub later : ℕ → Feeding → Feeding
later n f = record { string = f.string; used = n + f.used; held = f.held }

-- a string has begun, and the output has room for the longest
pub record Begun (held out : List ℕ) : Type 0 where
  pub going : unfinished held ≡ true
  pub some : 1 ≤ length held
  pub room : 256 ≤ length out
