-- Fields and transactions: as document 01 describes them, and as a test that the code can make.
use Rattle.std.specs.Prelude.{Bool, true, false, not, ◌&&◌, List, [], ◌∷◌, ◌++◌, ◌≡◌, ℕ, ◌≤◌, leb, eqb, length, if◌then◌else◌}
use Rattle.line.specs.Answer.{Outcome, refused}
use Rattle.line.specs.Character.{CR, seven, printable, textual}
use Rattle.line.specs.Test.{all}

-- fields, of 0 or more characters 20 to 7E, each followed by CR, and the characters that they make together (R-1.7)
pub data Fields : List (List ℕ) → List ℕ → Type 0 where
  none : Fields [] []
  next : {f t : List ℕ} {fs : List (List ℕ)} → all printable f ≡ true → Fields fs t → Fields (f ∷ fs) (f ++ CR ∷ t)

-- a transaction by its information: 1 or more fields, of 1 to 2,000 characters together (R-1.7)
pub record Transaction (t : List ℕ) : Type 0 where
  pub fields : List (List ℕ)
  pub made : Fields fields t
  pub some : 1 ≤ length fields
  pub within : length t ≤ 2000

-- the last character is CR (R-1.7)
unfoldable pub ends_in_cr : List ℕ → Bool
ends_in_cr [] = false
ends_in_cr (c ∷ []) = eqb c CR
ends_in_cr (c ∷ d ∷ t) = ends_in_cr (d ∷ t)

-- the same by a test: 1 to 2,000 characters of 20 to 7E and CR that end in CR (R-1.7)
abbrev pub legal : List ℕ → Bool
legal t = leb 1 (length t) && leb (length t) 2000 && all textual t && ends_in_cr t

-- what is done with information, unless it is no transaction:
-- 2 by its length, 3 by a byte of 80 hex or more, 6 by a character or its end (R-1.8)
unfoldable pub of_transaction : {A : Type 0} → List ℕ → Outcome A → Outcome A
of_transaction t whole =
    if not (leb 1 (length t) && leb (length t) 2000) then refused 2
    else if not (all seven t) then refused 3
    else if not (all textual t && ends_in_cr t) then refused 6
    else whole
