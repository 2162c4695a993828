use mathlib.Core.List.{List, ◌∷◌}
use mathlib.Core.Path.{◌≡◌}
use Prim.Native.Nat.{ℕ, ◌+◌, ◌-◌, ◌<◌, ◌≤◌}
use native.Mathlib.Omega.{arith}
use lib.ListN.{length, take, drop}
use Rattle.line.proofs.AllLaws.{all-bytes}
use Rattle.line.proofs.FindLaws.{find-within}
use Rattle.line.specs.Character.{CR}
use Rattle.line.specs.Test.{before}
use Rattle.export.specs.Export.{Adds, page_lines}
use Rattle.export.proofs.ExportLaws.{exported_long, Putting, Found, putting_none, putting_some, putting_all, putting_found, putting_room, putting_more}
use Rattle.export.proofs.put_pages.Goals as goal

-- before the end, where two CRs are found behind the place
module _ {journal memory out : List ℕ} {end at n first second : ℕ} (rest : List (List ℕ)) (p : Putting journal memory out end at n rest) (h : at < end)
    (e₁ : first ≡ at + before CR (drop at journal)) (e₂ : second ≡ first + 1 + before CR (drop (first + 1) journal)) where
  -- the next record has its fields there
  turn : (t : List ℕ) × (later : List (List ℕ)) × Putting journal memory out end at n (t ∷ later) × Found journal end at first second t
  turn =
      let (t, later, q) = putting_some rest p h in
      (t, later, q, putting_found t later q first second e₁ e₂)

  -- its lines have room
  room : n + (length (take (first - at) (drop at journal)) + length (take (second - (first + 1)) (drop (first + 1) journal)) + 20) ≤ length out
  room =
      let (t, later, q, found) = turn in
      rw (found.pager, found.message) (putting_room t later q)

  -- and are put
  more : {m : ℕ} {after : List ℕ} → Adds n (page_lines (take (first - at) (drop at journal)) (take (second - (first + 1)) (drop (first + 1) journal))) m out after →
      (later : List (List ℕ)) × Putting journal memory after end (second + 1 + 2) m later
  more adds =
      let (t, later, q, found) = turn in
      (later, putting_more t later q found (rw (found.pager, found.message) at adds))

pub overflow_sub-end : goal.overflow_sub-end
overflow_sub-end c = exported_long _ _ (all-bytes _ c.type_inv.journal) c.requires

pub loop-at-init : goal.loop-at-init
loop-at-init c = (_, putting_none _ _ (all-bytes _ c.type_inv.journal) c.requires)

pub overflow_add-first : goal.overflow_add-first
overflow_add-first c =
    let j = c.args.journal.now in
    omega (arith, c.find-first.ensures, find-within CR j c.loop-at.at (omega arith))

pub slice_bounds-put_page-end : goal.slice_bounds-put_page-end
slice_bounds-put_page-end c =
    let (rest, p) = c.loop-at.invariant in
    omega (arith, (turn rest p (omega arith) c.find-first.ensures c.find-second.ensures).3)

pub slice_bounds-put_page-end-in-loop-at : goal.slice_bounds-put_page-end-in-loop-at
slice_bounds-put_page-end-in-loop-at c =
    let (rest, p) = c.loop-at.invariant in
    omega (arith, (turn rest p (omega arith) c.find-first.ensures c.find-second.ensures).3)

pub put_page-n-requires : goal.put_page-n-requires
put_page-n-requires c =
    let (rest, p) = c.loop-at.invariant in
    room rest p (omega arith) c.find-first.ensures c.find-second.ensures

pub loop-at-preserved : goal.loop-at-preserved
loop-at-preserved c =
    let (rest, p) = c.loop-at.invariant in
    more rest p (omega arith) c.find-first.ensures c.find-second.ensures c.put_page-n.ensures

pub returns : goal.returns
returns c = putting_all c.loop-at.invariant.0 c.loop-at.invariant.1 (omega arith)
