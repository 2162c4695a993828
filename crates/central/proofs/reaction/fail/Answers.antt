-- `fail` meets its contract: the row is complete where it has reached the limit, and one longer where not.
use mathlib.Core.Path.{refl}
use borrow.Author.Tests.{eq-eqb, ne_eqb}
use Prim.Native.Nat.{◌+◌}
use Rattle.central.specs.declared.answer.Answer.TheVariants.{Nak}
use Rattle.central.proofs.ReactedLaws.{shows_kept}
use Rattle.central.proofs.reaction.fail.Goals as goal

pub returns-then-control-settings : goal.returns-then-control-settings
returns-then-control-settings c =
    λ pagers array ts h.
    let a = c.args in
    rw (eq-eqb a.control.failures a.settings.retries c.if-control-settings.true) (c.enter.ensures array ts h)

pub returns : goal.returns
returns c =
    λ pagers array ts h.
    let a = c.args in
    rw (ne_eqb a.control.failures a.settings.retries c.if-control-settings.false)
    (shows_kept a.control (a.control.failures + 1) Nak _ array ts refl h)
