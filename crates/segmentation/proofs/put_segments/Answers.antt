use mathlib.Core.List.{[], ◌∷◌, ◌++◌, append-nil, flat_map, append_assoc}
use mathlib.Core.Path.{◌≡◌, ◌∙◌, refl}
use lib.ListN.{length, drop, length-drop}
use Rattle.line.proofs.LaidLaws.{laid-length, laid-part, laid_none, part_length}
use Rattle.segmentation.proofs.SegmentationByLaws.{piece_from, by_within, turn_inside, turn_next, by_none}
use mathlib.Core.Bool.{true}
use Prim.Native.Nat.{◌+◌, ◌-◌, ◌≤◌}
use native.Mathlib.Omega.{arith}
use borrow.Rule.Slice.PartMut.{put_mid}
use Rattle.line.specs.Answer.{Laid}
use Rattle.line.proofs.FlatLaws.{flat_append}
use Rattle.line.proofs.ListLaws.{length_none}
use Rattle.block.specs.Block.{right}
use Rattle.block.specs.Segments.{blocks_of, segment_block}
use Rattle.block.proofs.FrameLaws.{block-length}
use Rattle.segmentation.specs.Segmentation.{segmentation_by}
use borrow.Author.Rules.{rules}
use Rattle.segmentation.proofs.put_segments.Goals as goal
use Rattle.segmentation.proofs.put_segments.Goals.{After-next_length, After-put_piece-at}

-- the next segment, and those behind it
turn : (c : After-next_length) →
    let l = c.loop-from in
    let a = c.args in
    let n = c.next_length.result in
    (1 ≤ n) × (l.from + n ≤ length a.info.now)
    × (segmentation_by a.way a.info.now ≡ l.invariant.2.0 ++ piece_from a.info.now l.from n ∷ segmentation_by a.way (drop (l.from + n) a.info.now))
turn c =
    let l = c.loop-from in
    let a = c.args in
    let t = a.info.now in
    let (some, next) = turn_next a.way t l.from _ l.invariant.0 c.next_length.ensures (search rules) in
    (some, turn_inside a.way t l.from _ l.invariant.0 c.next_length.ensures, l.invariant.2.1 ∙ rw (← next))

-- it is right, and fits behind those before it
fits : (c : After-next_length) →
    let l = c.loop-from in
    let g = piece_from c.args.info.now l.from c.next_length.result in
    (length g.info ≤ 250) × (right g.info g.ending ≡ true) × (l.at + (length g.info + 6) ≤ length l.out)
fits c =
    let l = c.loop-from in
    let (before, _, laid) = l.invariant.2 in
    let (short, good, room) = by_within c.args.way c.args.info.now c.requires.0 before _ _ (turn c).2 in
    (short, good, omega (arith, laid.counts, l.invariant.1, c.requires.1))

-- and then it is laid too
laid : (c : After-put_piece-at) →
    let l = c.loop-from in
    let a = c.args in
    let g = piece_from a.info.now l.from c.next_length.result in
    let after = put_mid l.at (length l.out - l.at) l.out c.put_piece-at.new.out in
    (c.put_piece-at.result ≡ length g.info + 6) × (length after ≡ length a.out.now) × Laid (blocks_of (l.invariant.2.0 ++ g ∷ [])) (l.at + c.put_piece-at.result) a.out.now after
unfolding flat_map
laid c =
    let l = c.loop-from in
    let g = piece_from c.args.info.now l.from c.next_length.result in
    let size = block-length g.info g.ending in
    let counts = c.put_piece-at.ensures.counts in
    let (_, _, room) = fits (goal.at.After-put_piece-at c).After-next_length in
    let (before, _, laid) = l.invariant.2 in
    let next = laid-part laid (omega (arith, l.invariant.1)) c.put_piece-at.ensures in
    (omega arith, laid-length next (omega (arith, l.invariant.1)), rw (flat_append segment_block before (g ∷ []), append-nil) next)

pub loop-from-init : goal.loop-from-init
unfolding flat_map
loop-from-init c = (search rules, refl, ([], refl, laid_none _))

pub slice_bounds-put_piece-count-in-loop-from : goal.slice_bounds-put_piece-count-in-loop-from
slice_bounds-put_piece-count-in-loop-from c = omega (arith, (fits (goal.at.slice_bounds-put_piece-count-in-loop-from c).After-next_length).2)

pub slice_bounds-put_piece-start-in-loop-from : goal.slice_bounds-put_piece-start-in-loop-from
slice_bounds-put_piece-start-in-loop-from c = omega (arith, (fits (goal.at.slice_bounds-put_piece-start-in-loop-from c).After-next_length).2)

pub put_piece-at-requires : goal.put_piece-at-requires
put_piece-at-requires c =
    let l = c.loop-from in
    let (short, good, room) = fits (goal.at.put_piece-at-requires c).After-next_length in
    (short, good, rw (part_length l.at l.out) (omega arith))

pub overflow_add-at : goal.overflow_add-at
overflow_add-at c =
    omega (arith, (laid (goal.at.overflow_add-at c).After-put_piece-at).0, (fits (goal.at.overflow_add-at c).After-next_length).2)

pub loop-from-smaller : goal.loop-from-smaller
loop-from-smaller c =
    let (some, inside, _) = turn (goal.at.loop-from-smaller c).After-next_length in
    omega (arith, some, inside)

pub loop-from-preserved : goal.loop-from-preserved
loop-from-preserved c =
    let l = c.loop-from in
    let g = piece_from c.args.info.now l.from c.next_length.result in
    let (_, inside, whole) = turn (goal.at.loop-from-preserved c).After-next_length in
    let put = laid (goal.at.loop-from-preserved c).After-put_piece-at in
    (inside, put.1, (l.invariant.2.0 ++ g ∷ [], whole ∙ rw append_assoc, put.2))

pub returns : goal.returns
returns c =
    let l = c.loop-from in
    let a = c.args in
    let none = length_none (segmentation_by a.way (drop l.from a.info.now)) (by_none a.way (drop l.from a.info.now) (omega (arith, length-drop l.from a.info.now))) in
    let (before, whole, laid) = l.invariant.2 in
    rw (whole, none, append-nil) laid
