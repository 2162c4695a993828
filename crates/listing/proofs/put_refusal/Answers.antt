-- `put_refusal` meets its contract: the text has the digit of the refusal in its place, and is put at the start.
use mathlib.Core.Path.{refl}
use Rattle.listing.proofs.ListingLaws.{added-laid}
use Rattle.listing.proofs.put_refusal.Goals as goal

pub returns : goal.returns
returns c = rw (← c.from.ensures) (added-laid c.put_text.ensures refl)
