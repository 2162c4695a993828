-- `write_out` meets its contract: a buffer that has not room for any journal's lines is refused; else the test of the journal decides.
use mathlib.Core.Path.{sym}
use borrow.Author.Tests.{lt-ltb, le-ltb}
use lib.ListN.{length}
use Rattle.line.proofs.LaidLaws.{wrote-laid}
use Rattle.line.proofs.OutcomeLaws.{map-refused}
use Rattle.line.proofs.OverlayLaws.{wrote-refused}
use Rattle.append.proofs.TailLaws.{wrote-handed}
use Rattle.line.specs.declared.answer.Refusal.TheVariants.{Size}
use Rattle.export.specs.Export.{written_out, pages_in}
use Rattle.export.proofs.ExportLaws.{pages-counted}
use Rattle.export.proofs.write_out.Goals as goal

pub returns-then-out-lt-ROOM : goal.returns-then-out-lt-ROOM
unfolding written_out
returns-then-out-lt-ROOM c = wrote-refused Size _ (rw (lt-ltb _ 33024 c.if-out-lt-ROOM.true))

pub returns-in_err-check_pages : goal.returns-in_err-check_pages
unfolding written_out
returns-in_err-check_pages c =
    let wrong = map-refused length (pages_in c.args.journal.now) _ (sym c.in_err-check_pages.ensures) in
    wrote-handed _ _ _ c.from_residual.ensures.1 (rw (le-ltb _ 33024 c.if-out-lt-ROOM.false, wrong))

pub returns : goal.returns
unfolding written_out
returns c =
    let pages = pages-counted _ _ (sym c.in_ok-check_pages.ensures) in
    wrote-laid (rw (le-ltb _ 33024 c.if-out-lt-ROOM.false, pages)) c.put_pages.ensures
