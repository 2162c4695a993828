-- `begin` meets its contract: where no byte begins a string all are skipped; else what comes behind the first that does goes on with it.
use mathlib.Core.Bool.{true}
use mathlib.Core.List.{[], ◌∷◌}
use mathlib.Core.Path.{◌≡◌, ap, ◌∙◌}
use Prim.Native.Nat.{◌+◌, ◌-◌}
use native.Mathlib.Nat.{zero-add}
use lib.ListN.{length, get_or, take, drop, length-drop}
use lib.Seq.{take_all, drop-cons}
use Rattle.line.specs.Answer.{done}
use Rattle.line.specs.Test.{before_first}
use Rattle.framer.specs.Framing.{is_opening, unfinished}
use Rattle.framer.specs.State.{state_of}
use Rattle.line.proofs.FirstLaws.{first-within, first_passes}
use Rattle.framer.proofs.FramingLaws.{size_bounds, held-begun, fed_skipped, fed-opened}
use Rattle.framer.proofs.StateLaws.{feeds_none, feeds_done}
use native.Mathlib.Omega.{arith}
use Rattle.framer.proofs.begin.Goals as goal
use Rattle.framer.proofs.begin.Goals.{After-seek-at, Else-bytes-at}

-- the place that was found
place : (c : After-seek-at) → c.seek-at.result ≡ before_first is_opening c.args.bytes.now
place c = c.seek-at.ensures ∙ zero-add _

-- the part from there to the next is the byte there
first : (c : Else-bytes-at) →
    let bytes = c.args.bytes.now in
    let at = c.seek-at.result in
    take (at + 1 - at) (drop at bytes) ≡ get_or bytes at 0 ∷ []
first c =
    let bytes = c.args.bytes.now in
    let at = c.seek-at.result in
    let one : at + 1 - at ≡ 1 = omega arith in
    rw (one, drop-cons bytes at 0 c.if-bytes-at.false)

-- it can be held
opens : (c : Else-bytes-at) → unfinished (get_or c.args.bytes.now c.seek-at.result 0 ∷ []) ≡ true
opens c =
    let bytes = c.args.bytes.now in
    let b = get_or bytes c.seek-at.result 0 in
    let found = place (goal.at.Else-bytes-at c).After-seek-at in
    let passes : is_opening b ≡ true = rw found (first_passes is_opening bytes (rw found at c.if-bytes-at.false)) in
    held-begun b [] passes (omega (arith, size_bounds (b ∷ [])))

-- what comes behind it is all that is left
rest : (c : Else-bytes-at) →
    let bytes = c.args.bytes.now in
    let next = c.seek-at.result + 1 in
    take (length bytes - next) (drop next bytes) ≡ drop next bytes
rest c =
    let bytes = c.args.bytes.now in
    let next = c.seek-at.result + 1 in
    take_all (length bytes - next) (drop next bytes) (omega (arith, length-drop next bytes))

pub returns-then-bytes-at : goal.returns-then-bytes-at
returns-then-bytes-at c =
    let a = c.args in
    let found = place (goal.at.returns-then-bytes-at c).After-seek-at in
    let none : before_first is_opening a.bytes.now ≡ length a.bytes.now = omega (arith, found, first-within is_opening a.bytes.now) in
    let used : length a.bytes.now ≡ c.seek-at.result = omega (arith, found) in
    feeds_none (state_of []) c.start.result c.seek-at.result [] a.out.now (ap done (fed_skipped a.bytes.now none ∙ rw used)) c.start.ensures

pub go_on-requires : goal.go_on-requires
go_on-requires c =
    let here = (goal.at.go_on-requires c).Else-bytes-at in
    let next = c.seek-at.result + 1 in
    (record { going = rw (first here) (opens here); some = rw (first here) (omega arith); room = c.requires }, rw (rest here) (omega (arith, length-drop next c.args.bytes.now, c.well_formed)))

pub returns : goal.returns
returns c =
    let here = goal.at.returns c in
    let after = here.Else-bytes-at in
    let same = fed-opened c.args.bytes.now c.seek-at.result (place here.After-seek-at) c.if-bytes-at.false in
    feeds_done c.go_on.ensures (state_of []) (ap done (same ∙ rw (rest after, first after)))
