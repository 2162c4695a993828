-- `clear_parity` meets its contract: each return is the case of `parity_off` that the tests before it leave.
use mathlib.Core.Path.{sym, ◌∙◌}
use borrow.Author.Tests.{lt-ltb, le-ltb}
use Rattle.line.specs.Parity.{parity_off, seven_bits}
use Rattle.line.proofs.OverlayLaws.{wrote-refused, wrote_map}
use Rattle.line.proofs.parity.clear_parity.Goals as goal

pub returns-then-out-line : goal.returns-then-out-line
unfolding parity_off
returns-then-out-line c = wrote-refused _ _ (rw (lt-ltb _ _ c.if-out-line.true))

pub returns-then-not-is_even : goal.returns-then-not-is_even
unfolding parity_off
returns-then-not-is_even c =
    let odd = sym c.is_even.ensures ∙ c.if-not-is_even.true in
    wrote-refused _ _ (rw (le-ltb _ _ c.if-out-line.false, odd))

pub returns : goal.returns
unfolding parity_off
returns c =
    let pass = sym c.is_even.ensures ∙ c.if-not-is_even.false in
    wrote_map seven_bits c.args.line.now _ _ c.take_parity.ensures (rw (le-ltb _ _ c.if-out-line.false, pass))
