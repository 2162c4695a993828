-- The content rules: which whole transactions the central admits (document 01, "The central's steps", Block).
use Rattle.std.specs.Prelude.{Bool, false, ◌&&◌, ◌||◌, List, [], ◌∷◌, ℕ, ◌+◌, ◌-◌, ◌*◌, eqb, leb, length, if◌then◌else◌}
use Rattle.line.specs.Character.{CR, digit}
use Rattle.line.specs.Test.{all}
use Rattle.journal.specs.Storage.{Storage}

-- the number that digits write, from the number before them (R-8.2)
unfoldable pub number_from : ℕ → List ℕ → ℕ
number_from n [] = n
number_from n (c ∷ cs) = number_from (n * 10 + (c - 0x30)) cs

-- the characters before the first CR (R-8.2)
unfoldable pub first_field : List ℕ → List ℕ
first_field [] = []
first_field (c ∷ t) = if eqb c CR then [] else c ∷ first_field t

-- how many CRs a text has (R-8.2)
unfoldable pub field_count : List ℕ → ℕ
field_count [] = 0
field_count (c ∷ t) = if eqb c CR then 1 + field_count t else field_count t

-- one of the list (R-8.2)
unfoldable pub listed : ℕ → List ℕ → Bool
listed n [] = false
listed n (m ∷ ms) = eqb n m || listed n ms

-- a pager ID: 1 to 8 digits (R-8.2)
abbrev pub is_pager_id : List ℕ → Bool
is_pager_id f = leb 1 (length f) && leb (length f) 8 && all digit f

-- a pager ID whose number is listed (R-8.2)
abbrev pub pages : List ℕ → List ℕ → Bool
pages pagers f = is_pager_id f && listed (number_from 0 f) pagers

-- a page: two fields, the first a pager ID, listed or not (R-15.9)
unfoldable pub is_page : List ℕ → Bool
is_page t = eqb (field_count t) 2 && is_pager_id (first_field t)

-- a record for a pager number: the first field is a pager ID of that number, leading zeros allowed (R-16.2)
unfoldable pub is_for : ℕ → List ℕ → Bool
is_for m t = is_pager_id (first_field t) && eqb (number_from 0 (first_field t)) m

-- one of the records is for a pager number (R-16.2)
unfoldable pub any_for : ℕ → List (List ℕ) → Bool
any_for m [] = false
any_for m (t ∷ ts) = is_for m t || any_for m ts

-- the content rules of a whole transaction: at most L characters, two fields, the first a listed pager number (R-8.2)
unfoldable pub content : ℕ → List ℕ → List ℕ → Bool
content most pagers t = leb (length t) most && eqb (field_count t) 2 && pages pagers (first_field t)

-- a journal admits a whole transaction: its content is right, and there is room (R-8.1)
unfoldable pub admits : {J : Type 0} → ℕ → List ℕ → Storage J → J → List ℕ → Bool
admits most pagers store journal t = content most pagers t && store.room journal t
