-- `put_trailer` meets its contract: each number goes right behind what lies there.
use mathlib.Core.Path.{◌≡◌, ◌∙◌}
use Prim.Native.Nat.{◌/◌, ◌%◌}
use native.Mathlib.Omega.{arith}
use Rattle.journal.specs.Encoding.{two_bytes}
use Rattle.delete.proofs.MoveLaws.{trailer-copied}
use Rattle.delete.proofs.compaction.put_trailer.Goals as goal

pub returns : goal.returns
returns c =
    let a = c.args in
    let (_, few, small) = c.requires in
    let high : a.count / 256 % 256 ≡ a.count / 256 = omega arith in
    let top : a.size / 256 % 256 ≡ a.size / 256 = omega arith in
    let one : c.copy_from_slice.new.self ≡ two_bytes a.count = c.copy_from_slice.ensures.after ∙ c.to_be_bytes.ensures ∙ rw high in
    let two : c.copy_from_slice-2.new.self ≡ two_bytes a.size = c.copy_from_slice-2.ensures.after ∙ c.to_be_bytes-2.ensures ∙ rw top in
    trailer-copied a.journal.now _ _ a.at a.count a.size c.requires.0 one two
