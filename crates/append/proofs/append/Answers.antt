-- `append` meets its contract: each refusal is that of its test, and a journal and information that were checked are extended as `append_to` says.
use mathlib.Core.Path.{sym}
use native.Mathlib.Omega.{arith}
use borrow.Author.Tests.{lt-ltb}
use lib.ListN.{get_or}
use Rattle.line.proofs.AllLaws.{all-each}
use Rattle.append.proofs.TailLaws.{wrote-handed}
use Rattle.line.specs.Character.{byte}
use Rattle.append.proofs.AppendLaws.{append_uncounted, append_unjudged, extend-checked}
use Rattle.append.proofs.append.Goals as goal

pub returns-in_err-check_in : goal.returns-in_err-check_in
returns-in_err-check_in c = wrote-handed _ _ _ c.from_residual.ensures.1 (append_uncounted _ _ _ _ (sym c.in_err-check_in.ensures))

pub returns-in_err-check_transaction : goal.returns-in_err-check_transaction
returns-in_err-check_transaction c = wrote-handed _ _ _ c.from_residual-in_err-check_transaction.ensures.1 (append_unjudged _ _ _ _ _ (sym c.in_ok-check_in.ensures) (sym c.in_err-check_transaction.ensures))

pub returns : goal.returns
returns c =
    let b = c.args.buffer.now in
    let bytes = all-each byte b (λ i. lt-ltb (get_or b i 0) 256 (grind arith)) in
    rw (extend-checked _ _ _ _ _ bytes (sym c.in_ok-check_in.ensures) (sym c.in_ok-check_transaction.ensures)) at c.extend.ensures
