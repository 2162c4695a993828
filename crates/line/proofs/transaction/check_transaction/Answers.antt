-- `check_transaction` meets its contract: a legal transaction is counted, and of any other the tests that are left find the first that `of_transaction` fails.
use mathlib.Core.Path.{sym, ◌∙◌}
use borrow.Author.Tests.{lt-leb, le-leb}
use lib.ListN.{length}
use native.Mathlib.Omega.{arith}
use Rattle.line.specs.Transaction.{of_transaction}
use Rattle.line.proofs.TransactionLaws.{of_legal, of_illegal}
use Rattle.line.proofs.transaction.check_transaction.Goals as goal

pub returns-then-is_legal : goal.returns-then-is_legal
returns-then-is_legal c = sym (of_legal _ _ (sym c.is_legal.ensures ∙ c.if-is_legal.true))

pub returns-then-n-lt1 : goal.returns-then-n-lt1
unfolding of_transaction
returns-then-n-lt1 c = rw (lt-leb 1 _ c.if-n-lt1.true)

pub returns-then-n-gt-MOST_INFORMATION : goal.returns-then-n-gt-MOST_INFORMATION
unfolding of_transaction
returns-then-n-gt-MOST_INFORMATION c =
    let n = length c.args.info.now in
    rw (le-leb 1 n (omega arith), lt-leb n 2000 (omega arith))

pub returns-then-not-are : goal.returns-then-not-are
unfolding of_transaction
returns-then-not-are c =
    let wide = sym c.are.ensures ∙ c.if-not-are.true in
    rw (le-leb 1 _ c.if-n-lt1.false, le-leb _ 2000 c.if-n-gt-MOST_INFORMATION.false, wide)

pub returns : goal.returns
returns c =
    let narrow = sym c.are.ensures ∙ c.if-not-are.false in
    sym (of_illegal _ _ (sym c.is_legal.ensures ∙ c.if-is_legal.false) c.if-n-lt1.false c.if-n-gt-MOST_INFORMATION.false narrow)
