-- The tags by which the code tells meanings apart: a meaning with the tag of one of several is one of these.
use mathlib.Core.List.{List, [], ◌∷◌, map}
use mathlib.Core.Logic.{inl, inr}
use mathlib.Core.Path.{◌≡◌, sym, subst}
use Prim.Native.Nat.{ℕ}
use borrow.Enum.Known.{lives_at}
use denote.Enum.Declared.{tag_of}
use types.Run.{OneOf}
use Rattle.reply.specs.contracts.Meaning.{enum, the_type}
use Rattle.reply.specs.declared.Meaning.{Meaning}
use Rattle.reply.specs.declared.Meaning.TheVariants.{IdRequest, Acceptance, Ack, Nak, Rs, Eot}

-- the tag of a meaning
abbrev pub tag : Meaning → ℕ
tag m = tag_of the_type m

-- no two have the same
tag_same : (m n : Meaning) → tag m ≡ tag n → m ≡ n
tag_same m IdRequest e = (lives_at enum m 0 e).1
tag_same m Acceptance e = (lives_at enum m 1 e).1
tag_same m Ack e = (lives_at enum m 2 e).1
tag_same m Nak e = (lives_at enum m 3 e).1
tag_same m Rs e = (lives_at enum m 4 e).1
tag_same m Eot e = (lives_at enum m 5 e).1

-- it holds of each of these
abbrev pub Each : (Meaning → Type 0) → List Meaning → Type 0
Each P [] = Unit {0}
Each P (m ∷ ms) = P m × Each P ms

-- what holds of each of these holds of a meaning with the tag of one
pub told : (P : Meaning → Type 0) (ms : List Meaning) (m : Meaning) → OneOf (map tag ms) (tag m) → Each P ms → P m
told P [] m h each = absurd h
told P (n ∷ []) m h each = subst P (sym (tag_same m n h)) each.0
told P (n ∷ k ∷ ms) m (inl h) each = subst P (sym (tag_same m n h)) each.0
told P (n ∷ k ∷ ms) m (inr h) each = told P (k ∷ ms) m h each.1
