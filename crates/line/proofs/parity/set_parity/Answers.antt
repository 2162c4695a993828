-- `set_parity` meets its contract: each return is the case of `parity_on` that the tests before it leave.
use mathlib.Core.Path.{sym, ◌∙◌}
use borrow.Author.Tests.{lt-ltb, le-ltb}
use Rattle.line.specs.Parity.{parity_on, with_parity}
use Rattle.line.proofs.OverlayLaws.{wrote-refused, wrote_map}
use Rattle.line.proofs.parity.set_parity.Goals as goal

pub returns-then-out-text : goal.returns-then-out-text
unfolding parity_on
returns-then-out-text c = wrote-refused _ _ (rw (lt-ltb _ _ c.if-out-text.true))

pub returns-then-not-are : goal.returns-then-not-are
unfolding parity_on
returns-then-not-are c =
    let odd = sym c.are.ensures ∙ c.if-not-are.true in
    wrote-refused _ _ (rw (le-ltb _ _ c.if-out-text.false, odd))

pub returns : goal.returns
unfolding parity_on
returns c =
    let pass = sym c.are.ensures ∙ c.if-not-are.false in
    wrote_map with_parity c.args.text.now _ _ c.put_parity.ensures (rw (le-ltb _ _ c.if-out-text.false, pass))
