-- `put_shown` meets its contract: all of the characters but the space are printed as they are, and CR by its name.
use mathlib.Core.List.{append_assoc}
use Prim.Native.Nat.{◌+◌, ◌-◌}
use native.Mathlib.Omega.{arith}
use lib.ListN.{length, drop, length-drop}
use lib.Seq.{take_all}
use Rattle.listing.proofs.ListingLaws.{added_more, shown_marked, shown_unmarked}
use Rattle.listing.proofs.put_shown.Goals as goal

pub returns-then-part-space : goal.returns-then-part-space
returns-then-part-space c = rw (shown_unmarked c.args.part.now c.args.space c.requires.0 c.if-part-space.true) c.put_text.ensures

pub returns : goal.returns
returns c =
    let part = c.args.part.now in
    let space = c.args.space in
    let second = added_more c.put_text-first.ensures (omega arith) c.put_text-second.ensures in
    let rest = take_all (length part - (space + 1)) (drop (space + 1) part) (omega (arith, length-drop (space + 1) part)) in
    let last = rw rest at c.put_text-2.ensures in
    rw (shown_marked part space c.requires.0 c.if-part-space.false, ← append_assoc) (added_more second (omega arith) last)
