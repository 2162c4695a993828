-- `open` meets its contract: the tests are those of `trailer`, on the numbers in the last four bytes.
use Rattle.std.specs.Prelude.{if◌then◌else◌}
use mathlib.Core.Bool.{not}
use mathlib.Core.List.{List}
use mathlib.Core.Path.{◌≡◌, sym, ◌∙◌}
use Prim.Native.Nat.{ℕ, ◌+◌, ◌≤◌}
use native.Mathlib.Omega.{arith}
use borrow.Author.Tests.{lt-ltb, le-ltb, eq-eqb, ne_eqb}
use lib.Dec.{eqb}
use lib.ListN.{length}
use Rattle.line.specs.Answer.{done, refused}
use Rattle.journal.specs.Walk.{but_last, last_number, trailer}
use Rattle.journal.proofs.StepLaws.{trailer-left, trailer-end}
use Rattle.journal.proofs.cursor.open.Goals as goal

-- the last test decides
decided : (b : List ℕ) (left end : ℕ) → 4 ≤ length b → last_number (but_last 2 b) ≡ left → left ≤ 64 → last_number b ≡ end → end ≤ 32000 →
    trailer b ≡ (if not (eqb (length b) (end + 4)) then refused 7 else done (record { end = end; left = left }))
unfolding trailer
decided b left end four l few e small = rw (le-ltb _ 4 four, l, le-ltb 64 _ few, e, le-ltb 32000 _ small)

pub returns-then-n-lt-TRAILER : goal.returns-then-n-lt-TRAILER
unfolding trailer
returns-then-n-lt-TRAILER c = rw (lt-ltb _ 4 c.if-n-lt-TRAILER.true)

pub returns-then-left-gt-RECORDS : goal.returns-then-left-gt-RECORDS
unfolding trailer
returns-then-left-gt-RECORDS c =
    let four = c.if-n-lt-TRAILER.false in
    let left = trailer-left c.args.journal.now four ∙ sym c.number_at-left.ensures in
    rw (le-ltb _ 4 four, left, lt-ltb 64 c.number_at-left.result (omega arith))

pub returns-then-end-gt-BYTES : goal.returns-then-end-gt-BYTES
unfolding trailer
returns-then-end-gt-BYTES c =
    let four = c.if-n-lt-TRAILER.false in
    let left = trailer-left c.args.journal.now four ∙ sym c.number_at-left.ensures in
    let end = trailer-end c.args.journal.now four ∙ sym c.number_at-end.ensures in
    rw (le-ltb _ 4 four, left, le-ltb 64 _ c.if-left-gt-RECORDS.false, end, lt-ltb 32000 _ c.if-end-gt-BYTES.true)

pub returns-then-n-end : goal.returns-then-n-end
returns-then-n-end c =
    let b = c.args.journal.now in
    let four = c.if-n-lt-TRAILER.false in
    sym
    (decided b _ _ four (trailer-left b four ∙ sym c.number_at-left.ensures) c.if-left-gt-RECORDS.false (trailer-end b four ∙ sym c.number_at-end.ensures) c.if-end-gt-BYTES.false
    ∙ rw (ne_eqb _ _ c.if-n-end.true))

pub returns : goal.returns
returns c =
    let b = c.args.journal.now in
    let four = c.if-n-lt-TRAILER.false in
    sym
    (decided b _ _ four (trailer-left b four ∙ sym c.number_at-left.ensures) c.if-left-gt-RECORDS.false (trailer-end b four ∙ sym c.number_at-end.ensures) c.if-end-gt-BYTES.false
    ∙ rw (eq-eqb _ _ c.if-n-end.false))
