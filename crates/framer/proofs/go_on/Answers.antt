-- `go_on` meets its contract: the string is longer than what is held. Either the bytes are fewer than it wants, and are held too; or it takes as many as it wants, and both parts are copied out.
use mathlib.Core.List.{[], ◌++◌}
use mathlib.Core.Path.{◌≡◌, refl, ap, ◌∙◌}
use Prim.Native.Nat.{◌+◌, ◌-◌, ◌≤◌, ◌<◌}
use native.Mathlib.Omega.{arith}
use lib.ListN.{length, take, length-append}
use lib.Seq.{length-take-le}
use Rattle.line.specs.Answer.{done, overlay}
use Rattle.line.proofs.CopyLaws.{copied-laid, copied-part}
use Rattle.line.proofs.OverlayLaws.{overlay-length}
use Rattle.framer.specs.Framing.{size}
use Rattle.framer.specs.Inner.{later}
use Rattle.framer.specs.State.{state_of}
use Rattle.framer.proofs.FramingLaws.{size_bounds, held-longer, fed-held, fed-handed}
use Rattle.framer.proofs.HeldLaws.{held-short}
use Rattle.framer.proofs.StateLaws.{feeds_none, feeds_some}
use Rattle.framer.proofs.go_on.Goals as goal
use Rattle.framer.proofs.go_on.Goals.{After-copy, After-size-size}

-- the string is longer than what is held, and at most 256
longer : (c : After-size-size) → (length c.args.held.now < c.size-size.result) × (c.size-size.result ≤ 256)
longer c =
    let h = c.args.held.now in
    let more = held-longer h c.args.bytes.now c.requires.0.going c.requires.0.some in
    let (_, most) = size_bounds (h ++ c.args.bytes.now) in
    (omega (arith, c.size-size.ensures), omega (arith, c.size-size.ensures))

-- what is held is laid over the start of the output, which keeps its length
laid : (c : After-copy) →
    let a = c.args in
    (c.copy.new.out ≡ overlay a.held.now a.out.now) × (length c.copy.new.out ≡ length a.out.now)
laid c =
    let h = c.args.held.now in
    let short = held-short h c.requires.0.going in
    let is = copied-laid h c.args.out.now c.copy.new.out (omega (arith, c.requires.0.room)) c.copy.ensures in
    (is, ap length is ∙ overlay-length h c.args.out.now (omega (arith, c.requires.0.room)))

pub hold-requires : goal.hold-requires
hold-requires c = let (_, most) = longer (goal.at.hold-requires c).After-size-size in omega arith

pub returns-then-bytes-wanted : goal.returns-then-bytes-wanted
returns-then-bytes-wanted c =
    let a = c.args in
    let h = a.held.now in
    let bytes = a.bytes.now in
    let waits = fed-held h bytes c.requires.0.going c.requires.0.some (rw (← c.size-size.ensures) c.if-bytes-wanted.true) in
    feeds_none (state_of []) c.hold.result (a.before + length bytes) (h ++ bytes) a.out.now (ap (λ f. done (later a.before f)) waits) c.hold.ensures

pub returns : goal.returns
returns c =
    let here = goal.at.returns c in
    let a = c.args in
    let h = a.held.now in
    let bytes = a.bytes.now in
    let wanted = c.size-size.result - length h in
    let (more, most) = longer here.After-size-size in
    let part : length (take wanted bytes) ≡ wanted = length-take-le wanted bytes c.if-bytes-wanted.false in
    let size_is : size (h ++ bytes) - length h ≡ wanted = rw (← c.size-size.ensures) in
    let hands = fed-handed h bytes c.requires.0.going c.requires.0.some (rw size_is c.if-bytes-wanted.false) in
    let string = h ++ take wanted bytes in
    let count : c.size-size.result ≡ length string = omega (arith, length-append h (take wanted bytes)) in
    let out = copied-part h (take wanted bytes) a.out.now c.copy.new.out c.copy-2.new.out (length h) (laid here.After-copy).0 refl (omega (arith, c.requires.0.room)) c.copy-2.ensures in
    feeds_some (state_of []) c.start.result c.size-size.result (a.before + wanted) string a.out.now _ (ap (λ f. done (later a.before f)) (rw size_is at hands)) count c.start.ensures out

pub overflow_sub-wanted : goal.overflow_sub-wanted
overflow_sub-wanted c = omega (arith, longer (goal.at.overflow_sub-wanted c).After-size-size)

pub slice_bounds-copy-count : goal.slice_bounds-copy-count
slice_bounds-copy-count c = omega (arith, (laid (goal.at.slice_bounds-copy-count c).After-copy).1, held-short c.args.held.now c.requires.0.going, c.requires.0.room)

pub slice_bounds-copy-start : goal.slice_bounds-copy-start
slice_bounds-copy-start c = omega (arith, (laid (goal.at.slice_bounds-copy-start c).After-copy).1, held-short c.args.held.now c.requires.0.going, c.requires.0.room)
