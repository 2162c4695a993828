-- `put_block` meets its contract: the characters that it cuts from the line are those of the block at the index.
use Rattle.listing.proofs.ListingLaws.{line-good, part_cut, part-segment}
use borrow.Author.Rules.{rules}
use Rattle.listing.proofs.put_block.Goals as goal
use Rattle.listing.proofs.put_block.Goals.{Start}

pub put_part-requires : goal.put_part-requires
put_part-requires c =
    let good = line-good c.args.line.now c.args.space c.requires.0 in
    (part_cut c.args.line.now c.args.space c.args.index c.min-end.result c.place.result good c.requires.1 c.min-end.ensures c.place.ensures, search rules)

pub returns : goal.returns
returns c =
    let good = line-good c.args.line.now c.args.space c.requires.0 in
    rw (part-segment c.args.line.now c.args.space c.args.index c.min-end.result c.place.result good c.requires.1 c.min-end.ensures c.place.ensures)
    c.put_part.ensures
