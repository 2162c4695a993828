-- `check` meets its contract: each return is the case of `checked_line` that the tests before it leave. What is printable is of 7-bit values, so that is tested only where a character is wrong.
use mathlib.Core.Bool.{true}
use mathlib.Core.List.{List}
use mathlib.Core.Path.{◌≡◌, sym, ◌∙◌}
use native.Mathlib.Omega.{arith}
use borrow.Author.Tests.{lt-ltb, le-ltb}
use Prim.Native.Nat.{ℕ}
use lib.ListN.{length}
use Rattle.line.specs.Character.{seven, printable}
use Rattle.line.specs.Test.{all, before}
use Rattle.line.proofs.FindLaws.{before-within}
use Rattle.line.proofs.TransactionLaws.{printable-textual, textual-seven}
use Rattle.listing.specs.Listing.{checked_line}
use Rattle.listing.proofs.ListingLaws.{spaced-before}
use Rattle.listing.proofs.check.Goals as goal

-- what is printable is of 7-bit values
right : (line : List ℕ) → all printable line ≡ true → all seven line ≡ true
right line text = textual-seven _ (printable-textual _ text)

pub returns-then-line-gt-LINE : goal.returns-then-line-gt-LINE
unfolding checked_line
returns-then-line-gt-LINE c = rw (lt-ltb 1999 (length c.args.line.now) (omega arith))

pub returns-then-are : goal.returns-then-are
unfolding checked_line
returns-then-are c =
    let short = le-ltb 1999 (length c.args.line.now) (omega arith) in
    let wrong = sym c.are.ensures ∙ c.if-not-are.true in
    rw (short, sym c.are-then-not-are.ensures ∙ c.if-are.true, wrong)

pub returns-then-not-are : goal.returns-then-not-are
unfolding checked_line
returns-then-not-are c =
    let short = le-ltb 1999 (length c.args.line.now) (omega arith) in
    rw (short, sym c.are-then-not-are.ensures ∙ c.if-are.false)

pub returns-then-space-line : goal.returns-then-space-line
unfolding checked_line
returns-then-space-line c =
    let line = c.args.line.now in
    let short = le-ltb 1999 (length line) (omega arith) in
    let text = sym c.are.ensures ∙ c.if-not-are.false in
    let found = c.find-space.ensures in
    let end = c.if-space-line.true in
    let none = spaced-before line ∙ le-ltb (before 0x20 line) (length line) (omega arith) in
    rw (short, right line text, text, none)

pub returns : goal.returns
unfolding checked_line
returns c =
    let line = c.args.line.now in
    let short = le-ltb 1999 (length line) (omega arith) in
    let text = sym c.are.ensures ∙ c.if-not-are.false in
    let found = c.find-space.ensures in
    let other = c.if-space-line.false in
    let place : c.find-space.result ≡ before 0x20 line = omega arith in
    let some = spaced-before line ∙ lt-ltb (before 0x20 line) (length line) (omega (arith, before-within 0x20 line)) in
    rw (short, right line text, text, some, place)
