-- Laws that docs/ names and that no proof uses any more: a loop that looks for a complete field from the last character back.
use mathlib.Core.Bool.{true, false}
use Rattle.std.specs.Prelude.{if◌then◌else◌}
use mathlib.Core.List.{List}
use mathlib.Core.Logic.{◌⊎◌, inl, inr}
use mathlib.Core.Path.{◌≡◌}
use Prim.Native.Nat.{ℕ, zero, suc, ◌-◌, ◌≤◌}
use native.Mathlib.Numerals.{sub-one}
use native.Mathlib.Omega.{arith}
use borrow.Author.Tests.{ne_eqb}
use lib.Dec.{eqb}
use lib.ListN.{take}
use Rattle.line.specs.Transaction.{ends_in_cr}
use Rattle.segmentation.specs.Segmentation.{complete}

-- how many are complete, once they are found; else as many as are left to be looked at
abbrev pub sought : ℕ → ℕ → ℕ
sought found k = if eqb found 0 then k else found

-- at a place a field is complete, or it is not, and one character less is looked at
pub sought_turn : (n found : ℕ) (t : List ℕ) → 1 ≤ n → ((ends_in_cr (take n t) ≡ true) × (found ≡ n)) ⊎ ((ends_in_cr (take n t) ≡ false) × (found ≡ 0)) →
    complete n t ≡ sought found (complete (n - 1) t)
unfolding complete
sought_turn zero found t h came = absurd (omega arith)
sought_turn (suc n) found t h (inl (e, q)) = rw (e, q, ne_eqb (suc n) 0 (λ z. omega arith))
sought_turn (suc n) found t h (inr (e, q)) = rw (e, q, sub-one)
