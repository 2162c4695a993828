-- `is_id` meets its contract: fewer than two characters do not begin so, and of more the first two decide.
use mathlib.Core.List.{map}
use mathlib.Core.Path.{sym}
use lib.ListN.{length-map}
use Rattle.line.specs.Parity.{seven_bits}
use Rattle.line.specs.Text.{bytes_of}
use Rattle.reply.proofs.SearchLaws.{id_begins}
use Rattle.reply.proofs.TextLaws.{begins-short}
use borrow.Author.Rules.{rules}
use Rattle.reply.proofs.remarks.is_id.Goals as goal

pub returns-in_default : goal.returns-in_default
returns-in_default c = begins-short (bytes_of "ID") (map seven_bits c.args.line.now) (rw length-map c.in_default.len_below)

pub returns : goal.returns
returns c = sym (id_begins c.args.line.now (search rules))
