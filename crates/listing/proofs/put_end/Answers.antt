-- `put_end` meets its contract: the names are put, and behind them the characters of the sum, CR and LF.
use native.Mathlib.Omega.{arith}
use Rattle.block.specs.Checksum.{check_characters}
use Rattle.listing.proofs.ListingLaws.{added_more}
use Rattle.listing.proofs.put_end.Goals as goal

pub returns : goal.returns
unfolding check_characters
returns c = rw c.sum_characters-check.ensures at (added_more c.put_text-end.ensures (omega arith) c.put_text.ensures)
