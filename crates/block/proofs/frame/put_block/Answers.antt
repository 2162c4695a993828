-- `put_block` meets its contract: what the check is of is laid, its check characters are copied behind it, and CR is stored behind those.
use Rattle.std.proofs.Common.{◌≡◌, ℕ, ◌+◌, ◌-◌, ◌++◌, length, refl, ap, ◌∙◌, append_assoc, arith, length-append}
use borrow.Rule.Slice.PartMut.{put_mid}
use Rattle.line.specs.Answer.{overlay}
use Rattle.line.specs.Character.{CR}
use Rattle.line.proofs.OverlayLaws.{overlay-snoc, overlay-start}
use Rattle.block.specs.Block.{summed, block_of}
use Rattle.block.specs.Checksum.{checksum, check_characters}
use Rattle.line.proofs.CopyLaws.{copied-behind}
use Rattle.block.proofs.FrameLaws.{summed-length}
use Rattle.block.proofs.frame.put_block.Goals as goal

-- there are three check characters
three : (n : ℕ) → length (check_characters n) ≡ 3
unfolding check_characters
three n = refl

pub returns : goal.returns
unfolding block_of
returns c =
    let a = c.args in
    let m = c.put_summed.new.out in
    let sum = summed a.info.now a.ending in
    let long = summed-length a.info.now a.ending in
    let n = length a.info.now + 2 in
    let check = check_characters (checksum sum) in
    let checked : c.check_characters-check.result ≡ check =
    c.check_characters-check.ensures ∙ rw (c.put_summed.ensures, overlay-start sum _ _ long) in
    let few = ap length checked ∙ three (checksum sum) in
    let laid : put_mid n (n + 3 - n) m c.copy_from_slice.new.self ≡ overlay (sum ++ c.check_characters-check.result) a.out.now =
    copied-behind sum c.check_characters-check.result a.out.now m _ n (n + 3 - n) c.put_summed.ensures long (omega arith) c.copy_from_slice.ensures.after in
    rw (laid, checked) (overlay-snoc (sum ++ check) a.out.now (n + 3) CR (length-append sum check ∙ omega (arith, three (checksum sum))) (omega arith) ∙ rw append_assoc)
