-- Numbers in two bytes, high first, at the end of bytes: written and read back, read and written again.
use mathlib.Core.Bool.{true}
use mathlib.Core.List.{List, [], ◌∷◌, ◌++◌}
use mathlib.Core.Path.{◌≡◌, sym, ap, ◌∙◌}
use Prim.Native.Nat.{ℕ, suc, ◌+◌, ◌-◌, ◌*◌, ◌/◌, ◌%◌, ◌≤◌, ◌<◌}
use native.Mathlib.Omega.{arith}
use borrow.Author.Tests.{ltb-true}
use lib.ListN.{length, drop, get_or, length-append, take-append-drop, drop_of_length-le}
use lib.Seq.{drop-cons, get_or_at, get_or-append-add}
use Rattle.line.proofs.AllLaws.{all-at}
use Rattle.line.specs.Character.{byte}
use Rattle.line.specs.Test.{all}
use Rattle.journal.specs.Encoding.{two_bytes}
use Rattle.journal.specs.Walk.{but_last, last_number}

-- a number behind other bytes is read back
pub last-number : (b : List ℕ) (n : ℕ) → last_number (b ++ two_bytes n) ≡ n
last-number b n =
    let size : length (b ++ two_bytes n) ≡ length b + 2 = length-append b (two_bytes n) in
    let high : get_or (b ++ two_bytes n) (length (b ++ two_bytes n) - 2) 0 ≡ n / 256 = get_or_at b (n / 256) ((n % 256) ∷ []) 0 (length (b ++ two_bytes n) - 2) (omega arith) in
    let place : length (b ++ two_bytes n) - 1 ≡ length b + 1 = omega arith in
    let low : get_or (b ++ two_bytes n) (length (b ++ two_bytes n) - 1) 0 ≡ n % 256 = rw place (get_or-append-add b (two_bytes n) 1 0) in
    omega arith

-- the last two bytes
last-two : (b : List ℕ) → 2 ≤ length b → drop (length b - 2) b ≡ get_or b (length b - 2) 0 ∷ get_or b (length b - 1) 0 ∷ []
last-two b h =
    let next : suc (length b - 2) ≡ length b - 1 = omega arith in
    let end : length b ≤ suc (length b - 1) = omega arith in
    rw (drop-cons b (length b - 2) 0 (omega arith), next, drop-cons b (length b - 1) 0 (omega arith), drop_of_length-le b end)

-- two bytes are those of the number that they hold
two_bytes_lem : (h l : ℕ) → h < 256 → l < 256 → h ∷ l ∷ [] ≡ two_bytes (h * 256 + l)
two_bytes_lem h l p q =
    let high : h ≡ (h * 256 + l) / 256 = omega arith in
    let low : l ≡ (h * 256 + l) % 256 = omega arith in
    cc

-- the last two bytes are those of the number that is read from them
pub number-bytes : (b : List ℕ) → all byte b ≡ true → 2 ≤ length b → drop (length b - 2) b ≡ two_bytes (last_number b)
number-bytes b a h =
    let at : (i : ℕ) → i < length b → get_or b i 0 < 256 = λ i k. ltb-true (get_or b i 0) 256 (all-at byte b i a k) in
    last-two b h ∙ two_bytes_lem (get_or b (length b - 2) 0) (get_or b (length b - 1) 0) (at (length b - 2) (omega arith)) (at (length b - 1) (omega arith))

-- bytes are those before the last two, and the number read from these
pub number-split : (b : List ℕ) → all byte b ≡ true → 2 ≤ length b → b ≡ but_last 2 b ++ two_bytes (last_number b)
number-split b a h = sym (take-append-drop (length b - 2) b) ∙ ap (λ d. but_last 2 b ++ d) (number-bytes b a h)
