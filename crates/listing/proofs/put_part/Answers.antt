-- `put_part` meets its contract: STX is put, the characters, and what their end and the sum ask for, which is the block of the segment that they are.
use Rattle.std.specs.Prelude.{if◌then◌else◌}
use mathlib.Core.Bool.{Bool, true, false}
use mathlib.Core.List.{List, ◌∷◌, ◌++◌, flat_map}
use mathlib.Core.Path.{◌≡◌}
use Prim.Native.Nat.{ℕ, ◌+◌, ◌%◌, ◌≤◌}
use native.Mathlib.Omega.{arith}
use borrow.Author.Tests.{eq-eqb, ne_eqb}
use lib.Dec.{lit≤, eqb}
use lib.ListN.{length, set}
use Rattle.line.specs.Character.{STX, CR}
use Rattle.line.specs.Text.{bytes_of}
use Rattle.block.specs.Block.{ending_character}
use Rattle.block.specs.Checksum.{value_sum, checksum, added}
use Rattle.block.specs.declared.frame.Ending.TheVariants.{Etb, Us}
use Rattle.listing.specs.Listing.{Added, shown, printed_block, segment_of, line_end}
use Rattle.listing.proofs.ListingLaws.{added_more, part_room, printed-last, printed-inner, ends_marked}
use Rattle.listing.proofs.put_part.Goals as goal
use Rattle.listing.proofs.put_part.Goals.{After-add-sum}

-- the characters are put behind STX
text : (c : After-add-sum) →
    let a = c.args in
    Added a.at (bytes_of "<STX>" ++ flat_map shown (set a.part.now a.space CR)) c.put_shown-end.result a.out.now c.put_shown-end.new.out
text c = added_more c.put_text-start.ensures (omega (arith, c.requires.1)) c.put_shown-end.ensures

-- and leave room for its end
room : (c : After-add-sum) (k : ℕ) → k ≤ 9 →
    c.put_shown-end.result + k + 8 ≤ length c.put_shown-end.new.out
room c = part_room c.args.part.now c.args.space c.requires.0 c.requires.1 (text c)

-- the sum is of STX and the characters
summed : (c : After-add-sum) → checksum (STX ∷ set c.args.part.now c.args.space CR) ≡ c.add-sum.result
unfolding value_sum
summed c = omega (arith, c.part_sum.ensures.1, c.add-sum.ensures.1)

-- where the transaction goes on, ETB or US is put behind them, by whether the space was the last of them
going_on : (c : After-add-sum) (last : Bool) {end n : ℕ} {out : List ℕ} →
    let a = c.args in
    let ending = ending_character (if last then Etb else Us) in
    eqb (a.space + 1) (length a.part.now) ≡ last → end ≡ added c.add-sum.result ending →
    Added c.put_shown-end.result (shown ending ++ line_end (end % 4096)) n c.put_shown-end.new.out out →
    Added a.at (printed_block (segment_of a.part.now a.space false)) n a.out.now out
going_on c last is_last sum put =
    let part = c.args.part.now in
    let space = c.args.space in
    rw (printed-inner part space c.add-sum.result (summed c) (if last then Etb else Us) (rw (ends_marked part space c.requires.0.text, is_last)) sum)
    (added_more (text c) (omega (arith, c.requires.1)) put)

pub put_end-requires : goal.put_end-requires
put_end-requires c = room (goal.at.put_end-requires c).After-add-sum 9 (lit≤ tt)

pub returns-then-last : goal.returns-then-last
returns-then-last c =
    let h = (goal.at.returns-then-last c).After-add-sum in
    rw (c.if-last.true, printed-last c.args.part.now c.args.space c.add-sum.result (summed h) (rw c.add.ensures.1 at c.add-then-last.ensures.1))
    (added_more (text h) (omega (arith, c.requires.1)) c.put_end.ensures)

pub put_end-requires-then-space-part : goal.put_end-requires-then-space-part
put_end-requires-then-space-part c = room (goal.at.put_end-requires-then-space-part c).After-add-sum 5 (lit≤ tt)

pub returns-then-space-part : goal.returns-then-space-part
unfolding shown
returns-then-space-part c =
    rw c.if-last.false
    (going_on (goal.at.returns-then-space-part c).After-add-sum true (eq-eqb _ _ c.if-space-part.true) c.add-then-space-part.ensures.1 c.put_end-then-space-part.ensures)

pub put_end-requires-2 : goal.put_end-requires-2
put_end-requires-2 c = room (goal.at.put_end-requires-2 c).After-add-sum 4 (lit≤ tt)

pub returns : goal.returns
unfolding shown
returns c =
    rw c.if-last.false
    (going_on (goal.at.returns c).After-add-sum false (ne_eqb _ _ c.if-space-part.false) c.add-2.ensures.1 c.put_end-2.ensures)
