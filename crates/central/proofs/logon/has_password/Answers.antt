-- `has_password` meets its contract: `PG1` is met, and then the rest is compared.
use mathlib.Core.Path.{sym, ◌∙◌}
use Rattle.line.specs.Password.{password_text}
use Rattle.line.specs.Text.{bytes_of}
use Rattle.central.proofs.TextLaws.{begun}
use Rattle.central.proofs.logon.has_password.Goals as goal

pub returns-in_default : goal.returns-in_default
returns-in_default c =
    let a = c.args in
    sym (begun a.word.now (bytes_of "PG1") (password_text a.password) ∙ rw c.in_default.ensures.cases)

pub returns : goal.returns
returns c =
    let a = c.args in
    let met = c.in-Some.ensures.cases in
    rw (begun a.word.now (bytes_of "PG1") (password_text a.password), met.0, ← met.1) c.is_same.ensures
