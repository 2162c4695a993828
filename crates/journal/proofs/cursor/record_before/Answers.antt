-- `record_before` meets its contract: the tests are those of `step_back`, on the bytes before the end.
use mathlib.Core.Path.{◌≡◌, sym, ap, ◌∙◌}
use mathlib.Core.List.{List}
use Prim.Native.Nat.{ℕ, ◌+◌, ◌-◌, ◌*◌, ◌≤◌}
use lib.ListN.{length, take, get_or}
use Rattle.line.specs.Answer.{done}
use Rattle.journal.specs.Walk.{last_number}
use Rattle.journal.proofs.StepLaws.{number_at, place_of_lem, step-short, step-out, step_illegal, step-legal}
use native.Mathlib.Omega.{arith}
use Rattle.journal.proofs.cursor.record_before.Goals as goal

-- the number read is the last of the bytes before the end
number : (b : List ℕ) (end n : ℕ) → end ≤ length b → 2 ≤ end → n ≡ get_or b (end - 2) 0 * 256 + get_or b (end - 2 + 1) 0 → last_number (take end b) ≡ n
number b end n inside two read = number_at b end (end - 2) (omega arith) inside ∙ sym read

pub returns-then-end-lt-LENGTH : goal.returns-then-end-lt-LENGTH
returns-then-end-lt-LENGTH c = rw (step-short c.args.journal.now c.args.end c.requires.0 c.if-end-lt-LENGTH.true)

pub returns-then-end-n : goal.returns-then-end-n
returns-then-end-n c =
    let b = c.args.journal.now in
    rw (step-out b c.args.end c.requires.0 _ (number b _ _ c.requires.0 c.if-end-lt-LENGTH.false c.number_at-n.ensures) c.if-end-n.true)

pub returns-then-not-is_legal : goal.returns-then-not-is_legal
returns-then-not-is_legal c =
    let b = c.args.journal.now in
    let n = c.number_at-n.result in
    let start = c.args.end - (n + 2) in
    let part : start + n - start ≡ n = omega arith in
    let illegal = rw part at (sym c.is_legal.ensures ∙ c.if-not-is_legal.true) in
    rw (step_illegal b c.args.end c.requires.0 n (number b _ _ c.requires.0 c.if-end-lt-LENGTH.false c.number_at-n.ensures) c.if-end-n.false illegal)

pub returns : goal.returns
returns c =
    let b = c.args.journal.now in
    let n = c.number_at-n.result in
    let start = c.args.end - (n + 2) in
    let part : start + n - start ≡ n = omega arith in
    let right = rw part at (sym c.is_legal.ensures ∙ c.if-not-is_legal.false) in
    rw (step-legal b c.args.end c.requires.0 n (number b _ _ c.requires.0 c.if-end-lt-LENGTH.false c.number_at-n.ensures) c.if-end-n.false right)
    (ap done (sym (place_of_lem b c.args.left start n (omega arith))))
