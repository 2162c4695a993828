-- `feed` meets its contract: the tests in their order; where something is held, the bytes go on with it, and else a string begins among them.
use mathlib.Core.Bool.{true}
use mathlib.Core.List.{[]}
use mathlib.Core.Path.{◌≡◌, sym, ap, ◌∙◌}
use lib.ListN.{length}
use Rattle.line.specs.Answer.{done}
use Rattle.line.specs.declared.answer.Refusal.TheVariants.{Size, Range}
use Rattle.line.proofs.ListLaws.{length_none}
use Rattle.framer.specs.Framing.{fed}
use Rattle.framer.specs.State.{held_in, in_range, fed_to}
use Rattle.framer.proofs.StateLaws.{tested-range, tested-room, tested-done, range-held, range_length, feeds_refused, feeds_done, later-none}
use native.Mathlib.Omega.{arith}
use borrow.Author.Rules.{rules}
use Rattle.framer.proofs.feed.Goals as goal

pub returns-then-not-is_in_range : goal.returns-then-not-is_in_range
returns-then-not-is_in_range c =
    let a = c.args in
    let wrong = sym c.is_in_range.ensures ∙ c.if-not-is_in_range.true in
    rw c.refuse.ensures (feeds_refused a.state Range a.out.now (tested-range a.state (length a.out.now) (fed (held_in a.state) a.bytes.now) wrong))

pub returns-then-out-lt-STRING : goal.returns-then-out-lt-STRING
returns-then-out-lt-STRING c =
    let ranged : in_range c.args.state ≡ true = sym c.is_in_range.ensures ∙ c.if-not-is_in_range.false in
    let a = c.args in
    let short = tested-room a.state (length a.out.now) (fed (held_in a.state) a.bytes.now) ranged c.if-out-lt-STRING.true in
    rw c.refuse-then-out-lt-STRING.ensures (feeds_refused a.state Size a.out.now short)

pub shared_ref_as_front-go_on : goal.shared_ref_as_front-go_on
shared_ref_as_front-go_on c =
    let sized : length c.args.state.held ≡ 256 = search rules in
    let ranged : in_range c.args.state ≡ true = sym c.is_in_range.ensures ∙ c.if-not-is_in_range.false in
    omega (arith, (range_length c.args.state ranged sized).1, sized)

pub slice_bounds-go_on-end : goal.slice_bounds-go_on-end
slice_bounds-go_on-end c =
    let sized : length c.args.state.held ≡ 256 = search rules in
    let ranged : in_range c.args.state ≡ true = sym c.is_in_range.ensures ∙ c.if-not-is_in_range.false in
    sym (range_length c.args.state ranged sized).0

pub go_on-requires : goal.go_on-requires
go_on-requires c =
    let sized : length c.args.state.held ≡ 256 = search rules in
    let ranged : in_range c.args.state ≡ true = sym c.is_in_range.ensures ∙ c.if-not-is_in_range.false in
    let (count, _) = range_length c.args.state ranged sized in
    (record { going = range-held c.args.state ranged; some = omega arith; room = c.if-out-lt-STRING.false }, omega (arith, c.well_formed))

pub returns-then-state-gt0 : goal.returns-then-state-gt0
returns-then-state-gt0 c =
    let ranged : in_range c.args.state ≡ true = sym c.is_in_range.ensures ∙ c.if-not-is_in_range.false in
    let tested : (let a = c.args in fed_to a.state a.bytes.now (length a.out.now) ≡ done (fed (held_in a.state) a.bytes.now)) = (let a = c.args in
    tested-done a.state (length a.out.now) (fed (held_in a.state) a.bytes.now) ranged c.if-out-lt-STRING.false) in
    let a = c.args in
    feeds_done c.go_on.ensures a.state (tested ∙ ap done (sym (later-none _)))

pub returns : goal.returns
returns c =
    let sized : length c.args.state.held ≡ 256 = search rules in
    let ranged : in_range c.args.state ≡ true = sym c.is_in_range.ensures ∙ c.if-not-is_in_range.false in
    let tested : (let a = c.args in fed_to a.state a.bytes.now (length a.out.now) ≡ done (fed (held_in a.state) a.bytes.now)) = (let a = c.args in
    tested-done a.state (length a.out.now) (fed (held_in a.state) a.bytes.now) ranged c.if-out-lt-STRING.false) in
    let a = c.args in
    let none : held_in a.state ≡ [] = length_none (held_in a.state) (omega (arith, range_length a.state ranged sized)) in
    feeds_done c.begin.ensures a.state (tested ∙ rw none)
