-- `flush` meets its contract: the tests in their order; what is held is copied out, and nothing is held behind it.
use mathlib.Core.Bool.{true}
use mathlib.Core.Path.{◌≡◌, sym, ◌∙◌}
use Prim.Native.Nat.{◌<◌}
use lib.ListN.{length}
use Rattle.line.specs.declared.answer.Refusal.TheVariants.{Size, Range}
use Rattle.framer.specs.State.{held_in, in_range}
use Rattle.framer.proofs.StateLaws.{tested-range, tested-room, tested-done, range_length, flushes_refused, flushes_done}
use native.Mathlib.Omega.{arith}
use borrow.Author.Rules.{rules}
use Rattle.framer.proofs.flush.Goals as goal

pub returns-then-not-is_in_range : goal.returns-then-not-is_in_range
returns-then-not-is_in_range c =
    let a = c.args in
    let wrong = sym c.is_in_range.ensures ∙ c.if-not-is_in_range.true in
    flushes_refused a.state Range a.out.now (tested-range a.state (length a.out.now) (held_in a.state) wrong)

pub returns-then-out-lt-STRING : goal.returns-then-out-lt-STRING
returns-then-out-lt-STRING c =
    let ranged : in_range c.args.state ≡ true = sym c.is_in_range.ensures ∙ c.if-not-is_in_range.false in
    let a = c.args in
    flushes_refused a.state Size a.out.now (tested-room a.state (length a.out.now) (held_in a.state) ranged c.if-out-lt-STRING.true)

pub shared_ref_as_front-copy : goal.shared_ref_as_front-copy
shared_ref_as_front-copy c =
    let sized : length c.args.state.held ≡ 256 = search rules in
    let ranged : in_range c.args.state ≡ true = sym c.is_in_range.ensures ∙ c.if-not-is_in_range.false in
    let held : (let s = c.args.state in (length (held_in s) ≡ s.length) × (s.length < 256)) = range_length c.args.state ranged sized in
    omega (arith, held.1, sized)

pub slice_bounds-copy-end : goal.slice_bounds-copy-end
slice_bounds-copy-end c =
    let sized : length c.args.state.held ≡ 256 = search rules in
    let ranged : in_range c.args.state ≡ true = sym c.is_in_range.ensures ∙ c.if-not-is_in_range.false in
    let held : (let s = c.args.state in (length (held_in s) ≡ s.length) × (s.length < 256)) = range_length c.args.state ranged sized in
    sym held.0

pub returns : goal.returns
returns c =
    let sized : length c.args.state.held ≡ 256 = search rules in
    let ranged : in_range c.args.state ≡ true = sym c.is_in_range.ensures ∙ c.if-not-is_in_range.false in
    let held : (let s = c.args.state in (length (held_in s) ≡ s.length) × (s.length < 256)) = range_length c.args.state ranged sized in
    let a = c.args in
    let (count, few) = held in
    flushes_done a.state _ _ a.out.now _ (tested-done a.state (length a.out.now) (held_in a.state) ranged c.if-out-lt-STRING.false) (omega arith) c.copy-outcome.ensures c.start-emptied.ensures
