-- `list` meets its contract: a buffer that has not room for any line's listing is refused; else what the test of the line comes to decides what is printed.
use mathlib.Core.Path.{sym}
use borrow.Author.Tests.{lt-ltb, le-ltb}
use Rattle.line.specs.declared.answer.Refusal.TheVariants.{Size}
use Rattle.line.proofs.OverlayLaws.{wrote-refused}
use Rattle.line.proofs.LaidLaws.{wrote-laid}
use Rattle.listing.specs.Listing.{listed, listing}
use Rattle.listing.proofs.list.Goals as goal

pub returns-then-out-lt-ROOM : goal.returns-then-out-lt-ROOM
unfolding listed
returns-then-out-lt-ROOM c = wrote-refused Size _ (rw (lt-ltb _ 10248 c.if-out-lt-ROOM.true))

pub returns-in-Err : goal.returns-in-Err
unfolding listed listing
returns-in-Err c = wrote-laid (rw (le-ltb _ 10248 c.if-out-lt-ROOM.false, sym c.in-Err.ensures)) c.put_refusal.ensures

pub returns-in-Ok : goal.returns-in-Ok
unfolding listed listing
returns-in-Ok c = wrote-laid (rw (le-ltb _ 10248 c.if-out-lt-ROOM.false, sym c.in-Ok.ensures)) c.put_line.ensures
