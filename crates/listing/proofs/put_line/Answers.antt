use mathlib.Core.List.{List, flat_map}
use mathlib.Core.Path.{◌≡◌, refl}
use Prim.Native.Nat.{ℕ, ◌+◌, ◌*◌, ◌/◌, ◌≤◌, ◌<◌}
use native.Mathlib.Omega.{arith}
use lib.ListN.{length}
use lib.Seq.{take_all}
use Rattle.line.specs.Answer.{done}
use Rattle.segmentation.specs.Segmentation.{segmentation, block_count}
use Rattle.listing.specs.Listing.{checked_line, fields_of}
use Rattle.listing.proofs.ListingLaws.{line-good, line-count, line_turn, added_none, added-laid}
use borrow.Author.Rules.{rules}
use Rattle.listing.proofs.put_line.Goals as goal

-- there is a block at an index up to the last, and it has room: there are at most eight
within : (line : List ℕ) (space i at room : ℕ) → checked_line line ≡ done space → i ≤ length line / 250 → at ≤ 1281 * i → 10248 ≤ room →
    (i < block_count (length line + 1)) × (at + 1281 ≤ room)
within line space i at room h last before long =
    let short = (line-good line space h).short in
    (omega arith, omega arith)

pub loop-index-init : goal.loop-index-init
unfolding flat_map
loop-index-init c = (search rules, search rules, refl, added_none _)

pub put_block-at-requires : goal.put_block-at-requires
put_block-at-requires c =
    let l = c.loop-index in
    let (place, room) = within c.args.line.now c.args.space l.index l.at (length l.out) c.requires.0 l.invariant.0 l.invariant.1 (omega arith) in
    (c.requires.0, place, room)

pub loop-index-preserved : goal.loop-index-preserved
loop-index-preserved c =
    let l = c.loop-index in
    let line = c.args.line.now in
    let (place, room) = within line c.args.space l.index l.at (length l.out) c.requires.0 l.invariant.0 l.invariant.1 (omega arith) in
    let turn = line_turn line l.index place room l.invariant.2 l.invariant.3 c.put_block-at.ensures in
    (search rules, omega (arith, turn.0), turn.1, turn.2)

pub put_block-requires : goal.put_block-requires
put_block-requires c =
    let l = c.loop-index in
    let (_, room) = within c.args.line.now c.args.space l.index l.at (length l.out) c.requires.0 l.invariant.0 l.invariant.1 (omega arith) in
    (c.requires.0, search rules, room)

pub returns : goal.returns
returns c =
    let l = c.loop-index in
    let line = c.args.line.now in
    let last = length line / 250 in
    let end : l.index ≡ last = omega arith in
    let before = rw end at l.invariant.3 in
    let (_, room) = within line c.args.space l.index l.at (length l.out) c.requires.0 l.invariant.0 l.invariant.1 (omega arith) in
    let whole = (line_turn line last (omega arith) room l.invariant.2 before c.put_block.ensures).2 in
    rw (take_all (last + 1) (segmentation (fields_of line)) (omega (arith, line-count line))) at (added-laid whole refl)
