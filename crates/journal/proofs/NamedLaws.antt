-- Laws that docs/ names and that no proof uses any more: what the tests of a buffer refuse.
use mathlib.Core.Bool.{true, false}
use mathlib.Core.List.{List}
use mathlib.Core.Path.{◌≡◌}
use Prim.Native.Nat.{ℕ, ◌<◌}
use borrow.Author.Tests.{lt-ltb}
use lib.ListN.{length}
use Rattle.line.specs.Answer.{Outcome, refused}
use Rattle.journal.specs.Storage.{is_buffer, in_buffer}

module _ {A : Type 0} (read : List ℕ → Outcome A) (buffer : List ℕ) (n : ℕ) where
  -- the buffer has the wrong size
  pub in_wrong : is_buffer buffer ≡ false → refused 1 ≡ in_buffer read buffer n
  in_wrong e = rw e

  -- it has fewer bytes
  pub in_past : is_buffer buffer ≡ true → length buffer < n → refused 7 ≡ in_buffer read buffer n
  in_past e h = rw (e, lt-ltb (length buffer) n h)
