-- `keep` meets its contract: what is copied is all of the part, or as much of it as the line has room for.
use Rattle.std.proofs.Common.{◌≡◌, ◌+◌, ◌-◌, ◌++◌, length, take, sym, ap, ◌∙◌, arith, length-append, append_assoc}
use lib.Seq.{length-take-le, take-append-add, drop-drop}
use Rattle.line.specs.Answer.{overlay}
use Rattle.line.proofs.ListLaws.{take_min}
use Rattle.blocks.proofs.keep.Goals as goal

pub returns : goal.returns
unfolding overlay
returns c =
    let line = c.args.line.now in
    let part = c.args.part.now in
    let kept = c.args.kept in
    let more = c.min-more.result in
    let front = length-take-le kept line c.requires in
    let new = length-take-le more part (omega (arith, c.min-more.ensures)) in
    let whole : length line ≡ length (take kept line) + (length line - kept) = omega arith in
    let cut : take (length line - kept) part ≡ take more part = rw c.min-more.ensures (sym (take_min (length line - kept) part)) in
    let text = ap (λ n. take n (take kept line ++ part)) whole ∙ take-append-add (take kept line) part (length line - kept) ∙ ap (λ t. take kept line ++ t) cut in
    let size : kept + more - kept ≡ more = omega arith in
    rw text
    (record {
      counts = omega (arith, length-append (take kept line) (take more part));
      leaves = rw (size, c.copy_from_slice.ensures.after, drop-drop, length-append, front, new, append_assoc);
    })
