-- Laws that docs/ names and that no proof uses any more: what arrives of a string, and verdicts not yet given.
use mathlib.Core.List.{List, [], ◌∷◌, map}
use mathlib.Core.Path.{◌≡◌, refl, sym, ap, ◌∙◌}
use Prim.Native.Nat.{ℕ, zero, suc, ◌≤◌, ◌<◌}
use native.Mathlib.Omega.{arith}
use borrow.Author.Tests.{ne_eqb}
use lib.ListN.{length, take, set, get_or, replicate}
use Rattle.line.specs.Answer.{overlay}
use Rattle.line.specs.Parity.{flip_top}
use Rattle.device.specs.Reaction.{verdict_number}
use Rattle.device.specs.declared.state.Verdict.TheVariants.{Unsent}
use Rattle.demand.specs.Faults.{garbled}
use Rattle.call.specs.Inner.{Arrives}
use Rattle.demand.proofs.FaultLaws.{hit-fault}

-- of a lost string nothing arrives
pub arrives_lost : (part : ℕ) (bytes memory : List ℕ) → (part ≡ 0 → ⊥) → (part ≡ 1 → ⊥) → Arrives part bytes 0 memory
arrives_lost part bytes memory d e = record { inside = omega arith; arrived = sym (hit-fault part bytes ∙ rw (ne_eqb part 0 d, ne_eqb part 1 e)) }

-- the first byte flipped in its place garbles the string
pub flipped_garbled : (count : ℕ) (memory : List ℕ) → 0 < count → count ≤ length memory → take count (set memory 0 (flip_top (get_or memory 0 0))) ≡ garbled (take count memory)
flipped_garbled zero memory p h = absurd (omega arith)
flipped_garbled (suc n) [] p h = absurd (omega arith)
flipped_garbled (suc n) (b ∷ bs) p h = refl

-- a verdict buffer filled with the number of unsent
pub unsent_laid : (xs : List ℕ) → overlay (map (λ x. verdict_number Unsent) xs) xs ≡ map verdict_number (replicate (length xs) Unsent)
unfolding overlay
unsent_laid [] = refl
unsent_laid (x ∷ xs) = ap (λ l. verdict_number Unsent ∷ l) (unsent_laid xs)
