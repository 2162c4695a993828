-- The logon: a text of 7-bit values, written piece by piece.
use mathlib.Core.Bool.{true, and-eq-true_iff}
use mathlib.Core.List.{List, [], ◌∷◌, ◌++◌}
use mathlib.Core.Path.{◌≡◌, refl}
use Prim.Native.Nat.{ℕ, ◌+◌, ◌-◌, ◌≤◌}
use native.Mathlib.Omega.{arith}
use borrow.Author.Tests.{leb-true}
use borrow.Rule.Slice.PartMut.{put_mid}
use lib.Dec.{leb}
use lib.ListN.{length, drop}
use lib.Seq.{length-take-le}
use Rattle.line.specs.Answer.{Laid, overlay}
use Rattle.line.specs.Character.{CR, ESC, seven, alphanumeric}
use Rattle.line.specs.Password.{password_text, password_in_range}
use Rattle.line.specs.Test.{all}
use Rattle.line.specs.Text.{bytes_of}
use Rattle.line.specs.declared.password.Password.{Password}
use Rattle.line.proofs.AllLaws.{all_append, all_weaken, alphanumeric-seven}
use Rattle.line.proofs.CopyLaws.{copied-behind}
use Rattle.device.specs.Reaction.{logon_text}

-- a password in range has at most 6 characters, all of them 7-bit values
pub password-parts : (p : Password) → password_in_range p ≡ true → (p.length ≤ 6) × (all seven (password_text p) ≡ true)
password-parts p h =
    let (short, letters) = (and-eq-true_iff (leb p.length 6) (all alphanumeric (password_text p))).0 h in
    (leb-true p.length 6 short, all_weaken alphanumeric-seven (password_text p) letters)

-- a logon is made of 7-bit values where its password is
pub logon-seven : (password : List ℕ) → all seven password ≡ true → all seven (logon_text password) ≡ true
unfolding all
logon-seven password h = rw (all_append seven password (CR ∷ []), h)

-- the password copied behind the start of a logon
pub logon-begun : (p : Password) (m first second : List ℕ) → p.length ≤ length p.characters →
    first ≡ ESC ∷ bytes_of "PG1" → second ≡ password_text p →
    Laid ((ESC ∷ bytes_of "PG1") ++ password_text p) (4 + p.length) m (put_mid 4 (4 + p.length - 4) (first ++ drop 4 m) second)
unfolding overlay
logon-begun p m first second short w v =
    let start = ESC ∷ bytes_of "PG1" in
    let long = length-take-le p.length p.characters short in
    record {
      counts = omega arith;
      leaves = copied-behind start (password_text p) m _ second 4 (4 + p.length - 4) (rw w) refl (omega arith) v;
    }
