-- `pass` meets its contract: a CR ends the line at hand, and behind it, as behind a LF, another begins.
use mathlib.Core.Path.{◌∙◌}
use borrow.Author.Tests.{ne_eqb}
use Rattle.reply.proofs.SearchLaws.{found-line, found-other, later_or}
use borrow.Author.Rules.{rules}
use Rattle.reply.proofs.remarks.Search.pass.Goals as goal

pub returns-then-bytes-i-ne-CR : goal.returns-then-bytes-i-ne-CR
returns-then-bytes-i-ne-CR c =
    let a = c.args in
    let other = ne_eqb _ _ c.if-bytes-i-ne-CR.true in
    record { begun = search rules; finds = λ rest. found-other a.self a.bytes.now a.i c.requires.0 c.requires.1 rest c.requires.2 other }

pub returns : goal.returns
returns c =
    let a = c.args in
    let last = rw c.id_line_at.ensures at (c.or-last.ensures ∙ later_or a.self.last c.id_line_at.result) in
    record { begun = search rules; finds = λ rest. rw last (found-line a.self a.bytes.now a.i c.requires.0 c.requires.1 rest c.if-bytes-i-ne-CR.false) }
