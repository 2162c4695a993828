-- `react` meets its contract: nothing came, or parity cannot be taken off, or the text at the start of the memory is what the stage gets.
use mathlib.Core.Path.{sym, ap, ◌∙◌}
use Prim.Native.Nat.{◌≤◌}
use native.Mathlib.Omega.{arith}
use borrow.Author.Tests.{eqb-true, eqb-false}
use lib.ListN.{length}
use lib.Seq.{length-take-le}
use borrow.Author.Rules.{rules}
use Rattle.line.proofs.AllLaws.{all-bytes}
use Rattle.line.proofs.OverlayLaws.{refused_only, counted_start}
use Rattle.central.proofs.ReactedLaws.{does_stores}
use Rattle.central.proofs.TextLaws.{heard-silence, heard-text}
use Rattle.central.specs.Hearing.{noise, heard_text}
use Rattle.central.specs.Reaction.{reacts, stays}
use Rattle.central.specs.Step.{rules_of}
use Rattle.central.proofs.lent.react.Goals as goal

pub returns-then-is_empty : goal.returns-then-is_empty
unfolding reacts
returns-then-is_empty c =
    let inside : c.args.control.length ≤ length c.args.pending.now = (let p = c.requires in omega (arith, p)) in
    let a = c.args in
    rw (heard-silence a.control.stage a.string.now (eqb-true _ 0 (sym c.is_empty.ensures ∙ c.if-is_empty.true)))
    (does_stores a.control a.journal.now (all-bytes a.journal.now (search rules)) c.requires.journal stays a.pending.now inside c.stay.ensures)

pub returns-in_default : goal.returns-in_default
returns-in_default c =
    let inside : c.args.control.length ≤ length c.args.pending.now = (let p = c.requires in omega (arith, p)) in
    let a = c.args in
    let odd = ap (heard_text a.control.stage) (refused_only _ _ c.in_default.is c.clear_parity.ensures) in
    rw (heard-text a.control.stage a.string.now (eqb-false _ 0 (sym c.is_empty.ensures ∙ c.if-is_empty.false)) ∙ odd)
    (does_stores a.control a.journal.now (all-bytes a.journal.now (search rules)) c.requires.journal (λ x. reacts (rules_of a.setup.settings a.setup.pagers.now) x a.control.stage noise) a.pending.now inside (c.unrecognized.ensures a.setup.pagers.now))

pub slice_bounds-text-end : goal.slice_bounds-text-end
slice_bounds-text-end c = (counted_start _ _ c.in-Ok.is c.clear_parity.ensures).0

pub slice_bounds-react_to-end : goal.slice_bounds-react_to-end
slice_bounds-react_to-end c = sym (length-take-le _ _ (counted_start _ _ c.in-Ok.is c.clear_parity.ensures).0)

pub returns : goal.returns
returns c =
    let a = c.args in
    let taken-off = ap (heard_text a.control.stage) (counted_start _ _ c.in-Ok.is c.clear_parity.ensures).1 in
    rw (heard-text a.control.stage a.string.now (eqb-false _ 0 (sym c.is_empty.ensures ∙ c.if-is_empty.false)) ∙ taken-off) c.react_to.ensures
