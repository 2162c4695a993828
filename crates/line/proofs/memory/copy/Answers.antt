-- `copy` meets its contract: each return is the case of `copied` that its test leaves.
use mathlib.Core.Path.{refl}
use borrow.Author.Tests.{lt-ltb, le-ltb}
use Rattle.line.specs.Answer.{copied}
use Rattle.line.proofs.OverlayLaws.{wrote-refused, wrote-done}
use Rattle.line.proofs.memory.copy.Goals as goal

pub returns-then-out-bytes : goal.returns-then-out-bytes
unfolding copied
returns-then-out-bytes c = wrote-refused _ _ (rw (lt-ltb _ _ c.if-out-bytes.true))

pub returns : goal.returns
unfolding copied
returns c =
    let a = c.args in
    wrote-done a.bytes.now _ _ _ (rw (le-ltb _ _ c.if-out-bytes.false)) refl c.put.ensures
