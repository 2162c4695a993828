-- Tests: a choice by one, one of every member of a list, whether two lists are the same, and where a member stands.
use Rattle.std.specs.Prelude.{Bool, true, false, ◌&&◌, List, [], ◌∷◌, ℕ, suc, eqb, if◌then◌else◌}

-- every member of the list passes the test
unfoldable pub all : (ℕ → Bool) → List ℕ → Bool
all p [] = true
all p (x ∷ xs) = p x && all p xs

-- the two lists are the same (R-11.3)
unfoldable pub same : List ℕ → List ℕ → Bool
same [] [] = true
same [] (y ∷ ys) = false
same (x ∷ xs) [] = false
same (x ∷ xs) (y ∷ ys) = eqb x y && same xs ys

-- how many members stand before the first that passes the test; all of them where none does (R-11.3)
unfoldable pub before_first : (ℕ → Bool) → List ℕ → ℕ
before_first p [] = 0
before_first p (b ∷ bs) = if p b then 0 else suc (before_first p bs)

-- how many members stand before the first y (R-11.3)
unfoldable pub before : ℕ → List ℕ → ℕ
before y [] = 0
before y (x ∷ xs) = if eqb x y then 0 else suc (before y xs)
