-- Laws that docs/ names and that no proof uses any more: a loop that counts CRs, a number of few digits, and a loop that looks a number up.
use mathlib.Core.Bool.{true}
use mathlib.Core.List.{List}
use mathlib.Core.Path.{◌≡◌, sym, ◌∙◌}
use Prim.Native.Nat.{ℕ, ◌+◌, ◌^◌, ◌≤◌, ◌<◌}
use native.Mathlib.Nat.{pow-le-pow_right}
use native.Mathlib.Numerals.{add-one}
use native.Mathlib.Omega.{arith}
use borrow.Author.Tests.{eq-eqb, ne_eqb}
use lib.ListN.{length, get_or, drop}
use lib.Seq.{drop-cons}
use Rattle.line.specs.Character.{CR}
use Rattle.admission.specs.Content.{field_count, listed}

-- numbers of fewer than 8 digits
pub below_most : (n i : ℕ) → n < 10 ^ i → i < 8 → n < 10000000
below_most n i h k =
    let most : 10 ^ i ≤ 10 ^ 7 = pow-le-pow_right (omega arith) {j = 7} (omega arith) in
    omega arith

-- a loop that has not found n before the place i finds it there
pub listed_here : (n : ℕ) (ms : List ℕ) (i : ℕ) → listed n ms ≡ listed n (drop i ms) → n ≡ get_or ms i 0 → i < length ms → true ≡ listed n ms
unfolding listed
listed_here n ms i rest e h = sym (rest ∙ rw (drop-cons ms i 0 h, eq-eqb n (get_or ms i 0) e))

-- a loop that has counted n CRs before the place i, where another character stands
pub count_same : (t : List ℕ) (i n : ℕ) → field_count t ≡ n + field_count (drop i t) → (get_or t i 0 ≡ CR → ⊥) → i < length t → field_count t ≡ n + field_count (drop (i + 1) t)
unfolding field_count
count_same t i n rest e h = rest ∙ rw (add-one, drop-cons t i 0 h, ne_eqb (get_or t i 0) CR e)
