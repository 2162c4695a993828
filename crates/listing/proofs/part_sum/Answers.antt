-- `part_sum` meets its contract: CR in the place of the space takes 19 off the sum, and 4,077 is 19 less than 4,096.
use native.Mathlib.Omega.{arith}
use Rattle.listing.proofs.ListingLaws.{sum_marked}
use borrow.Author.Rules.{rules}
use Rattle.listing.proofs.part_sum.Goals as goal

pub returns-then-space-part : goal.returns-then-space-part
returns-then-space-part c =
    let h = c.if-space-part.true in
    (search rules, omega (arith, c.checksum-sum.ensures, sum_marked c.args.part.now c.args.space h (c.requires.right h)))
