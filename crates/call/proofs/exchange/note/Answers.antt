-- `note` meets its contract: the number of the verdict is stored in its place.
use Rattle.std.proofs.lemmas.List.{map-set}
use Rattle.call.proofs.exchange.note.Goals as goal

pub returns-then-given-verdicts : goal.returns-then-given-verdicts
returns-then-given-verdicts c = λ vs e. rw (e, c.from.ensures, c.in-Some.is, map-set)
