-- `write_logon` meets its contract: the start, the password behind it and CR behind both are laid over the memory.
use mathlib.Core.Path.{◌≡◌, refl}
use lib.ListN.{length}
use Rattle.line.proofs.LaidLaws.{laid-snoc}
use Rattle.device.proofs.WritingLaws.{password-parts, logon-begun}
use native.Mathlib.Omega.{arith}
use borrow.Author.Rules.{rules}
use Rattle.device.proofs.string.write_logon.Goals as goal

pub returns : goal.returns
returns c =
    let few = (password-parts c.args.password c.requires.0).0 in
    let six : length c.args.password.characters ≡ 6 = search rules in
    let begun = logon-begun c.args.password c.args.text.now _ _ (omega arith) c.copy_from_slice.ensures.after c.copy_from_slice-2.ensures.after in
    laid-snoc _ 13 begun (omega arith) refl
