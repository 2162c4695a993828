-- `take_block` meets its contract: a transaction over L is refused; else the ending decides whether it goes on or is whole.
use mathlib.Core.Bool.{true}
use mathlib.Core.List.{List, ◌++◌}
use mathlib.Core.Logic.{inl, inr}
use mathlib.Core.Path.{◌≡◌, refl, subst, ◌∙◌}
use Prim.Native.Nat.{ℕ, ◌+◌, ◌≤◌}
use native.Mathlib.Omega.{arith}
use lib.ListN.{length, length-append}
use lib.Seq.{length-take-le}
use Rattle.line.proofs.AllLaws.{all-bytes}
use Rattle.block.proofs.SegmentsLaws.{joined-legal}
use Rattle.block.specs.Block.{right}
use Rattle.block.specs.Segments.{continues}
use Rattle.block.specs.declared.frame.Ending.TheVariants.{Etx}
use Rattle.central.proofs.ReactedLaws.{takes-over, takes-on}
use Rattle.central.specs.Inner.{Continues, Stores, pending_in, takes_in}
use Rattle.central.specs.declared.reaction.Reacted.{Reacted}
use borrow.Author.Rules.{rules}
use Rattle.central.proofs.reaction.take_block.Goals as goal
use Rattle.central.proofs.reaction.take_block.Goals.{Start, Else-setup-control}

-- the pending information lies in its array
inside : (c : Start) → c.args.control.length ≤ length c.args.pending.now
inside c = let p = c.requires.0 in omega (arith, p)

-- the length of the transaction so far
long : (c : Start) →
    let a = c.args in
    length (pending_in a.control a.pending.now ++ a.info.now) ≡ a.control.length + length a.info.now
long c =
    let a = c.args in
    length-append (pending_in a.control a.pending.now) a.info.now ∙ rw (length-take-le a.control.length a.pending.now (inside c))

-- it is at most L
short : (c : Else-setup-control) →
    let a = c.args in
    length (pending_in a.control a.pending.now ++ a.info.now) ≤ a.setup.settings.longest
short c = rw (long (goal.at.Else-setup-control c).Start) c.if-setup-control.false

-- the transaction goes on
goes_on : (c : Else-setup-control) {r : Reacted} {array : List ℕ} →
    let a = c.args in
    Continues a.control a.info.now r a.pending.now array →
    Stores (takes_in a.setup.settings a.setup.pagers.now a.control a.pending.now a.journal.now (pending_in a.control a.pending.now ++ a.info.now) true) r a.pending.now array a.journal.now a.journal.now
goes_on c =
    let a = c.args in
    takes-on a.control a.journal.now (all-bytes a.journal.now (search rules)) c.requires.0.journal a.setup.settings a.setup.pagers.now a.pending.now _ a.info.now (inside (goal.at.Else-setup-control c).Start) (short c)

pub returns-then-setup-control : goal.returns-then-setup-control
returns-then-setup-control c =
    let a = c.args in
    let start = (goal.at.returns-then-setup-control c).Start in
    takes-over a.control a.journal.now (all-bytes a.journal.now (search rules)) c.requires.0.journal a.setup.settings a.setup.pagers.now a.pending.now (pending_in a.control a.pending.now ++ a.info.now) (continues a.ending) (inside start)
    (rw (long start) c.if-setup-control.true) c.enter.ensures

pub conclude-requires : goal.conclude-requires
conclude-requires c =
    let a = c.args in
    let p = c.requires.0 in
    let good = subst (λ e. right a.info.now e ≡ true) c.in-Etx.is c.requires.1 in
    let fits = short (goal.at.conclude-requires c).Else-setup-control in
    (p, joined-legal (pending_in a.control a.pending.now) a.info.now Etx p.characters good refl (omega (arith, p)), fits)

pub returns-in-Etb : goal.returns-in-Etb
returns-in-Etb c =
    let further = goes_on (goal.at.returns-in-Etb c).Else-setup-control c.go_on.ensures in
    elim c.in-Etb.is [ inl e ↦ rw e further | inr e ↦ rw e further ]
