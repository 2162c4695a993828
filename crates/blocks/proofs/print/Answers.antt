-- `print` meets its contract: what waits stays where there is room for any line's listing behind it, and the listing is laid there.
use Rattle.std.proofs.Common.{◌≡◌, ◌+◌, ◌-◌, ◌≤◌, ◌<◌, ℕ, List, ◌⊎◌, inl, inr, length, take, drop, refl, sym, arith}
use borrow.Author.Tests.{lt-ltb, le-ltb}
use lib.Seq.{length-take-le}
use Rattle.line.specs.Answer.{done, count_of, outcome_of, Laid, Wrote}
use Rattle.std.specs.Prelude.{Result}
use Rattle.line.specs.declared.answer.Refusal.{Refusal}
use Rattle.line.proofs.OverlayLaws.{overlay-own}
use Rattle.line.proofs.LaidLaws.{part_length, laid-within, laid-part}
use Rattle.line.proofs.NumberLaws.{laid-count}
use Rattle.listing.specs.Listing.{listing, listed}
use Rattle.blocks.specs.Lines.{stays}
use Rattle.blocks.proofs.print.Goals as goal
use Rattle.blocks.proofs.print.Goals.{then-out-at+in_ok-write_all, else-out-at}

-- where the listing goes: what waits was written out, or stays
abbrev Placed : ℕ → ℕ → List ℕ → Type 0
Placed waiting at out = ((length out < waiting + 10248) × (at ≡ 0)) ⊎ ((waiting + 10248 ≤ length out) × (at ≡ waiting))

module _ (waiting at : ℕ) (out : List ℕ) (waits : waiting ≤ length out) (fits : 10248 ≤ length out) where
  -- what waits still, and that any line's listing has room behind it
  room : Placed waiting at out → (take at out ≡ stays (length out) (take waiting out)) × (at + 10248 ≤ length out)
  unfolding stays
  room (inl (full, none)) = (rw (length-take-le waiting out waits, lt-ltb (length out) (waiting + 10248) full, none) refl, omega arith)
  room (inr (free, same)) = (rw (length-take-le waiting out waits, le-ltb (length out) (waiting + 10248) free, same) refl, omega arith)

module _ (line out : List ℕ) (at : ℕ) (fits : at + 10248 ≤ length out) where
  -- so the listing is made
  made : listed line (length (take (length out - at) (drop at out))) ≡ done (listing line)
  unfolding listed
  made = rw (part_length at out, le-ltb (length out - at) 10248 (omega arith)) refl

  -- and laid behind what stays, within the output
  laid : {new : List ℕ} {r : Result ℕ Refusal} {n : ℕ} → Wrote (listed line (length (take (length out - at) (drop at out)))) r (take (length out - at) (drop at out)) new →
      length new ≡ length (take (length out - at) (drop at out)) → n ≡ count_of (outcome_of r) → (at + n ≤ length out) × Laid (listing line) n (take (length out - at) (drop at out)) new
  laid wrote long counts =
      let printed = laid-count made wrote counts in
      (omega (arith, laid-within printed, part_length at out), printed)

pub overflow_add-result : goal.overflow_add-result
overflow_add-result g c =
    let out = c.args.out.now in
    let at = c.if-out-at.at in
    let placed : Placed c.args.waiting at out = elim c.if-out-at.branch [ then-out-at+in_ok-write_all w ↦ inl (w.if-out-at.true, w.at-is) | else-out-at w ↦ inr (w.if-out-at.false, w.at-is) ] in
    let (stay, fits) = room c.args.waiting at out c.requires.0 c.requires.1 placed in
    let (within, printed) = laid c.args.line.now out at fits c.list.ensures c.list.auto.out c.count.ensures in
    omega (arith, within)

pub returns-clause-ok : goal.returns-clause-ok
returns-clause-ok g c =
    let out = c.args.out.now in
    let at = c.if-out-at.at in
    let placed : Placed c.args.waiting at out = elim c.if-out-at.branch [ then-out-at+in_ok-write_all w ↦ inl (w.if-out-at.true, w.at-is) | else-out-at w ↦ inr (w.if-out-at.false, w.at-is) ] in
    let (stay, fits) = room c.args.waiting at out c.requires.0 c.requires.1 placed in
    let (within, printed) = laid c.args.line.now out at fits c.list.ensures c.list.auto.out c.count.ensures in
    rw (← stay)
    (laid-part (record { counts = sym (length-take-le at out (omega arith)); leaves = overlay-own at out (omega arith) }) (omega (arith, printed.counts)) printed)
