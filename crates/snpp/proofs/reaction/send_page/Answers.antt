-- `send_page` meets its contract: without pager ID and message nothing changes; else the page is offered, and both are forgotten.
use mathlib.Core.Bool.{Bool, true, false, not, ◌||◌, false≢true}
use mathlib.Core.Path.{◌≡◌, refl, sym, ap, ◌∙◌}
use native.Mathlib.Omega.{arith}
use lib.Dec.{eqb}
use lib.Seq.{length-take-le}
use Rattle.line.proofs.AllLaws.{all-bytes}
use Rattle.snpp.proofs.OfferLaws.{held-pager}
use Rattle.snpp.proofs.ReactionLaws.{does_order, does_stored, does_failed}
use Rattle.snpp.proofs.StageLaws.{same_entered}
use Rattle.snpp.proofs.StateLaws.{ranged}
use Rattle.snpp.specs.Inner.{is_entered}
use borrow.Author.Rules.{rules}
use Rattle.snpp.proofs.reaction.send_page.Goals as goal
use Rattle.snpp.proofs.reaction.send_page.Goals.{After-ne, Else-ne-control}

-- whether something is missing
missing : (c : After-ne) → let k = c.args.control in (c.ne.result || eqb k.digits 0) ≡ (not (is_entered k.stage) || eqb k.digits 0)
missing c =
    let k = c.args.control in
    ap (λ b. b || eqb k.digits 0) (c.ne.ensures ∙ ap not (same_entered k.stage))

-- nothing is
both : (c : Else-ne-control) → let k = c.args.control in (is_entered k.stage ≡ true) × (eqb k.digits 0 ≡ false)
both c =
    let k = c.args.control in
    neither (is_entered k.stage) (eqb k.digits 0) (sym (missing (goal.at.Else-ne-control c).After-ne) ∙ c.if-ne-control.false)
  where
    neither : (a b : Bool) → not a || b ≡ false → (a ≡ true) × (b ≡ false)
    neither true b e = (refl, e)
    neither false b e = absurd (false≢true (sym e))

pub returns-then-ne-control : goal.returns-then-ne-control
returns-then-ne-control c =
    let a = c.args in
    let less = sym (missing (goal.at.returns-then-ne-control c).After-ne) ∙ c.if-ne-control.true in
    rw c.stay.ensures
    (does_order a.setup.settings a.setup.pagers.now a.control a.message.now a.journal.now a.length (all-bytes a.journal.now (search rules)) c.requires.0 c.requires.1 less)

pub shared_ref_as_front-offer : goal.shared_ref_as_front-offer
shared_ref_as_front-offer c = omega (arith, c.requires.0.digits, (ranged _ c.requires.0.range).pager.within)

pub slice_bounds-offer-end : goal.slice_bounds-offer-end
slice_bounds-offer-end c = sym (length-take-le _ _ (ranged _ c.requires.0.range).pager.within)

pub slice_bounds-offer-end-2 : goal.slice_bounds-offer-end-2
slice_bounds-offer-end-2 c = (ranged _ c.requires.0.range).message.within

pub slice_bounds-offer-end-3 : goal.slice_bounds-offer-end-3
slice_bounds-offer-end-3 c = sym (length-take-le _ _ (ranged _ c.requires.0.range).message.within)

pub offer-requires : goal.offer-requires
offer-requires c =
    let k = c.args.control in
    let m = c.args.message.now in
    let p = c.requires.0 in
    let r = ranged _ p.range in
    let (_, digits) = both (goal.at.offer-requires c).Else-ne-control in
    (p.longest, held-pager k.pager k.digits r.pager p.digits digits, r.message.text, omega (arith, p.sized, length-take-le k.length m r.message.within, r.message.within), p.journal)

pub returns-in_default : goal.returns-in_default
returns-in_default c =
    let a = c.args in
    let (entered, digits) = both (goal.at.returns-in_default c).Else-ne-control in
    let (forgot, cleared) = c.forget.ensures in
    rw (forgot, cleared)
    (does_failed a.setup.settings a.setup.pagers.now a.control a.message.now a.journal.now a.length (all-bytes a.journal.now (search rules)) c.requires.0 c.requires.1 entered digits c.offer.ensures c.in_default.is)

pub returns : goal.returns
returns c =
    let a = c.args in
    let (entered, digits) = both (goal.at.returns c).Else-ne-control in
    let (forgot, cleared) = c.forget-2.ensures in
    rw (forgot, cleared)
    (does_stored a.setup.settings a.setup.pagers.now a.control a.message.now a.journal.now a.length (all-bytes a.journal.now (search rules)) c.requires.0 c.requires.1 entered digits _ c.offer.ensures c.in-Some.is)
