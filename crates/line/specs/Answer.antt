-- What a call comes to, in document 01's numbers: what it makes, or the number of the refusal; its number and count.
-- And what lent memory holds afterwards.
use Rattle.std.specs.Prelude.{List, [], ◌++◌, ◌≡◌, ℕ, ltb, length, drop, Result, Ok, Err, if◌then◌else◌}
use Rattle.line.specs.declared.answer.Refusal.{Refusal}
use Rattle.line.specs.declared.answer.Refusal.TheVariants.{Size, Length, Parity, Frame, Checksum, Information, Journal, Room, Range}

-- document 01's number of each refusal ("Numbered returns") (R-11.1)
abbrev pub refusal_number : Refusal → ℕ
refusal_number Size = 1
refusal_number Length = 2
refusal_number Parity = 3
refusal_number Frame = 4
refusal_number Checksum = 5
refusal_number Information = 6
refusal_number Journal = 7
refusal_number Room = 8
refusal_number Range = 9

-- what a call comes to: done (0) with what it makes, or refused by number (R-11.1)
pub data Outcome (A : Type 0) : Type 0 where
  done : A → Outcome A
  refused : ℕ → Outcome A

-- an answer as document 01 gives it: what the call makes, or the refusal's number (R-11.1)
abbrev pub outcome_of : {A : Type 0} → Result A Refusal → Outcome A
outcome_of (Ok x) = done x
outcome_of (Err r) = refused (refusal_number r)

-- document 01's number of what a call comes to: 0 where it is done, else the refusal's ("Numbered returns") (R-11.1)
abbrev pub number_of : {A : Type 0} → Outcome A → ℕ
number_of (done x) = 0
number_of (refused n) = n

-- the count that a call comes to: nought where it is refused (demand 1) (R-11.1)
abbrev pub count_of : Outcome ℕ → ℕ
count_of (done n) = n
count_of (refused n) = 0

-- an outcome with what it makes taken further
abbrev pub map_done : {A B : Type 0} → (A → B) → Outcome A → Outcome B
map_done f (done x) = done (f x)
map_done f (refused n) = refused n

-- a second call on what the first makes; a refusal of the first stands
abbrev pub and_then : {A B : Type 0} → Outcome A → (A → Outcome B) → Outcome B
and_then (done x) f = f x
and_then (refused n) f = refused n

-- what an outcome puts out: nothing where it is refused
abbrev pub output : {A : Type 0} → Outcome (List A) → List A
output (done xs) = xs
output (refused n) = []

-- the memory m with xs laid over its start (R-11.1)
unfoldable pub overlay : List ℕ → List ℕ → List ℕ
overlay xs m = xs ++ drop (length xs) m

-- bytes laid over the start of the memory, and their count
pub record Laid (xs : List ℕ) (n : ℕ) (before after : List ℕ) : Type 0 where
  pub counts : n ≡ length xs
  pub leaves : after ≡ overlay xs before

-- what a writer owes: it answers the outcome, and the memory keeps all but the bytes put out at its start (R-11.1)
pub record Wrote (o : Outcome (List ℕ)) (r : Result ℕ Refusal) (before after : List ℕ) : Type 0 where
  pub answers : outcome_of r ≡ map_done length o
  pub leaves : after ≡ overlay (output o) before

-- bytes into a buffer of so many bytes: 1 where it is short (R-11.3)
unfoldable pub copied : List ℕ → ℕ → Outcome (List ℕ)
copied bytes room = if ltb room (length bytes) then refused 1 else done bytes
