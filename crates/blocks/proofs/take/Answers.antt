-- `take` meets its contract: what is kept, what was written and what waits, and the rest of the piece, decide at each turn.
use Rattle.std.proofs.Common.{◌≡◌, ◌+◌, ◌-◌, ◌≤◌, ◌<◌, ℕ, List, [], ◌++◌, length, take, drop, refl, ◌∙◌, arith}
use lib.ListN.{drop_of_length-le}
use lib.Seq.{length-take-le}
use Rattle.line.specs.Answer.{Laid}
use Rattle.line.specs.Character.{LF}
use Rattle.line.specs.Test.{before}
use Rattle.line.proofs.LaidLaws.{laid-start, laid-within}
use Rattle.listing.specs.Listing.{listing}
use Rattle.blocks.specs.Lines.{leaves, stays, taken}
use Rattle.blocks.proofs.LineLaws.{state, found_within, taken-part, taken-line}
use Rattle.blocks.proofs.take.Goals as goal

-- the end of the present line is looked for further on in the piece
module _ (piece : List ℕ) (at end : ℕ) (found : end ≡ at + before LF (drop at piece)) (room : ℕ) where
  -- what is kept is what should be kept of the piece so far
  kept_right : {line line' : List ℕ} {kept kept' : ℕ} (written waits : List ℕ) → length line ≡ 2000 → kept ≤ length line →
      Laid (take (length line) (take kept line ++ take (end - at) (drop at piece))) kept' line line' →
      taken room (state (take kept line) written waits) (drop at piece) ≡ taken room (state (take kept' line') written waits) (drop end piece)
  kept_right {line} {kept = kept} written waits long keeps laid =
      let front = length-take-le kept line keeps in
      let next = taken-part piece at end found room (take kept line) written waits (omega arith) in
      let text = rw long at (laid-start laid) in
      rw text next

  -- what waits is what should be printed of the piece so far
  printed_right : {out out' : List ℕ} {n : ℕ} (line written waits : List ℕ) → end < length piece → length out ≡ room →
      Laid (stays (length out) waits ++ listing line) n out out' →
      taken room (state line written waits) (drop end piece) ≡ taken room (state [] (written ++ leaves room waits) (take n out')) (drop (end + 1) piece)
  printed_right {out} line written waits inside long laid =
      taken-line piece at end found room (state line written waits) inside ∙ rw (laid-start laid, long) refl

pub slice_bounds-keep-end : goal.slice_bounds-keep-end
slice_bounds-keep-end g c =
    let found = found_within c.args.piece.now c.loop-at.at c.find-end.result c.find-end.ensures (omega (arith, c.loop-at-test.true)) in
    omega (arith, found)

pub loop-at-preserved-then-end-piece : goal.loop-at-preserved-then-end-piece
loop-at-preserved-then-end-piece g c =
    let (keeps, waits, written, right) = c.loop-at.invariant in
    let piece = c.args.piece.now in
    let room = length c.args.out.now in
    let at = c.loop-at.at in
    let end = c.find-end.result in
    let line : length c.loop-at.line ≡ 2000 = omega (arith, c.loop-at.auto.line, c.requires.lines) in
    let kept = kept_right piece at end c.find-end.ensures room written (take c.loop-at.waiting c.loop-at.out) line keeps c.keep-kept.ensures in
    let printed = printed_right piece at end c.find-end.ensures room (take c.keep-kept.result c.keep-kept.new.line) written (take c.loop-at.waiting c.loop-at.out) c.if-end-piece.true c.loop-at.auto.out c.in_ok-waiting.ensures.ok in
    (omega arith, laid-within c.in_ok-waiting.ensures.ok, _, right ∙ kept ∙ printed)

pub loop-at-preserved : goal.loop-at-preserved
loop-at-preserved g c =
    let (keeps, waits, written, right) = c.loop-at.invariant in
    let piece = c.args.piece.now in
    let line : length c.loop-at.line ≡ 2000 = omega (arith, c.loop-at.auto.line, c.requires.lines) in
    (laid-within c.keep-kept.ensures, waits, written, right ∙ kept_right piece c.loop-at.at c.find-end.result c.find-end.ensures (length c.args.out.now) written _ line keeps c.keep-kept.ensures)

pub returns-clause-ok : goal.returns-clause-ok
unfolding taken
returns-clause-ok g c =
    let (keeps, waits, written, right) = c.loop-at.invariant in
    let none = drop_of_length-le c.args.piece.now c.loop-at-test.false in
    record {
      within = record { keeps = keeps; lines = c.loop-at.auto.line ∙ c.requires.lines; waits = waits; prints = omega (arith, c.loop-at.auto.out, c.requires.prints) };
      written = written;
      right = right ∙ rw none refl;
    }
