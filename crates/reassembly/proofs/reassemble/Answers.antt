-- `reassemble` meets its contract: each return is the case of `join_block` that the tests before it leave; the information is copied behind what has been joined.
use mathlib.Core.Bool.{not, true}
use mathlib.Core.List.{List, ◌++◌}
use mathlib.Core.Path.{◌≡◌, refl, sym, ◌∙◌}
use Prim.Native.Nat.{ℕ, ◌<◌, ◌≤◌, ◌+◌, ◌-◌}
use borrow.Author.Tests.{lt-ltb, le-ltb}
use denote.Enum.Bare.{sameb}
use lib.ListN.{length}
use lib.Seq.{length-take-le}
use Rattle.std.proofs.lemmas.Result.{err_from_is_err_and}
use Rattle.line.specs.Answer.{done, map_done}
use Rattle.line.proofs.OutcomeLaws.{map-refused}
use Rattle.line.proofs.OverlayLaws.{overlay-own}
use Rattle.block.specs.Block.{inside, read_block}
use Rattle.block.specs.Segments.{continues, segment}
use Rattle.block.specs.contracts.frame.Ending.{the_type}
use Rattle.block.specs.declared.frame.Ending.{Ending}
use Rattle.block.specs.declared.frame.Ending.TheVariants.{Etx, Etb, Us}
use Rattle.line.proofs.CopyLaws.{copied-behind}
use Rattle.reassembly.specs.Reassembly.{so_far, in_range, Progress, join, join_block}
use Rattle.reassembly.specs.declared.Reassembly.{Reassembly}
use Rattle.reassembly.proofs.ReassemblyLaws.{join-tested, join-found, joined-refused, joined-next}
use native.Mathlib.Omega.{arith}
use Rattle.reassembly.proofs.reassemble.Goals as goal

-- what the reader finds is joined
found : (r : Reassembly) (m s info : List ℕ) (e : Ending) → in_range r m ≡ true → 2000 ≤ length m → r.length + (length s - 6) ≤ 2000 → done e ≡ map_done (λ g. g.ending) (read_block s) → info ≡ inside s →
    (length info ≡ length s - 6) × (join_block r m s ≡ join r m (segment info e))
found r m s info e ranged room fits reads h =
    let (short, joins) = join-found r m s info e reads h in
    (short, join-tested r m s ranged room fits ∙ joins)

-- ETX alone ends the transaction
last : (e : Ending) → sameb the_type e Etx ≡ not (continues e)
last Etx = refl
last Etb = refl
last Us = refl

pub returns-then-not-in_range : goal.returns-then-not-in_range
unfolding join_block
returns-then-not-in_range c =
    let wrong = sym c.in_range.ensures ∙ c.if-not-in_range.true in
    joined-refused _ _ (rw wrong)

pub returns-then-buffer-lt-MOST_INFORMATION : goal.returns-then-buffer-lt-MOST_INFORMATION
unfolding join_block
returns-then-buffer-lt-MOST_INFORMATION c =
    let ranged = sym c.in_range.ensures ∙ c.if-not-in_range.false in
    joined-refused _ _ (rw (ranged, lt-ltb _ 2000 c.if-buffer-lt-MOST_INFORMATION.true))

pub returns-then-length-information_length-gt-MOST_INFORMATION : goal.returns-then-length-information_length-gt-MOST_INFORMATION
unfolding join_block
returns-then-length-information_length-gt-MOST_INFORMATION c =
    let ranged = sym c.in_range.ensures ∙ c.if-not-in_range.false in
    let over : 2000 < c.args.state.length + c.information_length.result = omega (arith, c.if-length-information_length-gt-MOST_INFORMATION.true) in
    joined-refused _ _ (rw (ranged, le-ltb _ 2000 c.if-buffer-lt-MOST_INFORMATION.false, ← c.information_length.ensures, lt-ltb 2000 _ over))

pub returns-in_err-ending : goal.returns-in_err-ending
returns-in_err-ending c =
    let a = c.args in
    let ranged = sym c.in_range.ensures ∙ c.if-not-in_range.false in
    let fits = rw c.information_length.ensures at c.if-length-information_length-gt-MOST_INFORMATION.false in
    let tested = join-tested a.state a.buffer.now a.block.now ranged c.if-buffer-lt-MOST_INFORMATION.false fits in
    let p = err_from_is_err_and c.from_residual.result c.from_residual.ensures.1 in
    rw (p.1, p.2) (joined-refused _ _ (tested ∙ rw (map-refused (λ g. g.ending) (read_block a.block.now) _ (sym c.in_err-ending.ensures))))

pub returns-then-state : goal.returns-then-state
returns-then-state c =
    let a = c.args in
    let ranged = sym c.in_range.ensures ∙ c.if-not-in_range.false in
    let fits = rw c.information_length.ensures at c.if-length-information_length-gt-MOST_INFORMATION.false in
    let (_, joins) = found a.state a.buffer.now a.block.now _ c.in_ok-ending.ending ranged c.if-buffer-lt-MOST_INFORMATION.false fits c.in_ok-ending.ensures refl in
    joined-refused _ _ (joins ∙ rw c.if-state.true)

pub returns : goal.returns
returns c =
    let a = c.args in
    let n = a.state.length in
    let e = c.in_ok-ending.ending in
    let info = c.inside-info.result.now in
    let m = a.buffer.now in
    let ranged = sym c.in_range.ensures ∙ c.if-not-in_range.false in
    let fits = rw c.information_length.ensures at c.if-length-information_length-gt-MOST_INFORMATION.false in
    let (short, joins) = found a.state m a.block.now info e ranged c.if-buffer-lt-MOST_INFORMATION.false fits c.in_ok-ending.ensures c.inside-info.ensures.holds in
    let laid = copied-behind (so_far a.state m) info m m _ n (n + length info - n) (overlay-own n m (omega arith)) (length-take-le n m (omega arith)) (omega arith) c.copy_from_slice.ensures.after in
    let ends : c.eq.result ≡ not (continues e) = c.eq.ensures ∙ last e in
    let next : Progress = record { state = record { length = n + length info; complete = c.eq.result }; joined = so_far a.state m ++ info } in
    joined-next next m _ (joins ∙ rw (c.if-state.false, ends)) laid
