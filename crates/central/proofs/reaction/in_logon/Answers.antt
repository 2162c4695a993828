-- `in_logon` meets its contract: each return is what the stage does with what the tests before it leave.
use mathlib.Core.Bool.{true, false}
use mathlib.Core.List.{[], ◌∷◌, ◌++◌}
use mathlib.Core.Path.{◌≡◌, sym, ◌∙◌}
use Prim.Native.Nat.{◌-◌}
use lib.ListN.{length}
use Rattle.line.specs.Character.{CR}
use Rattle.line.specs.Password.{password_text}
use Rattle.line.specs.Test.{same}
use Rattle.line.specs.Text.{bytes_of}
use Rattle.central.specs.Hearing.{middle, logs_on, recognized}
use Rattle.central.specs.Reaction.{reacts}
use native.Mathlib.Omega.{arith}
use Rattle.central.proofs.reaction.in_logon.Goals as goal
use Rattle.central.proofs.reaction.in_logon.Goals.{Else-is_same, Else-not-logs_on, After-has_password}

-- the text is not CR alone
other : (c : Else-is_same) → same c.args.text.now (CR ∷ []) ≡ false
other c = sym c.is_same.ensures ∙ c.if-is_same.false

-- it is a logon
logon : (c : Else-not-logs_on) → logs_on c.args.text.now ≡ true
logon c = sym c.logs_on.ensures ∙ c.if-not-logs_on.false

-- its letters and digits were compared
compared : (c : After-has_password) →
    let a = c.args in
    c.has_password.result ≡ same (middle a.text.now) (bytes_of "PG1" ++ password_text a.settings.password)
compared c =
    let t = c.args.text.now in
    let n : length t - 1 - 1 ≡ length t - 2 = omega arith in
    rw n at c.has_password.ensures

pub returns-then-is_same : goal.returns-then-is_same
unfolding reacts recognized
returns-then-is_same c = λ pagers array ts h. rw (sym c.is_same.ensures ∙ c.if-is_same.true) (c.stay.ensures array ts h)

pub returns-then-not-logs_on : goal.returns-then-not-logs_on
unfolding reacts recognized
returns-then-not-logs_on c = λ pagers array ts h.
    rw (other (goal.at.returns-then-not-logs_on c).Else-is_same, sym c.logs_on.ensures ∙ c.if-not-logs_on.true) (c.fail.ensures pagers array ts h)

pub returns-then-not-has_password : goal.returns-then-not-has_password
unfolding reacts recognized
returns-then-not-has_password c =
    let here = goal.at.returns-then-not-has_password c in
    λ pagers array ts h.
    rw (other here.Else-is_same, logon here.Else-not-logs_on, sym (compared here.After-has_password) ∙ c.if-not-has_password.true) (c.fail-then-not-has_password.ensures pagers array ts h)

pub returns : goal.returns
unfolding reacts recognized
returns c =
    let here = goal.at.returns c in
    λ pagers array ts h.
    rw (other here.Else-is_same, logon here.Else-not-logs_on, sym (compared here.After-has_password) ∙ c.if-not-has_password.false) (c.enter.ensures array ts h)
