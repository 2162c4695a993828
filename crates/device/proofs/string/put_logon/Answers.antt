-- `put_logon` meets its contract: the text of the logon lies at the start of the memory, and is put out with parity.
use lib.ListN.{length-take}
use Rattle.line.proofs.LaidLaws.{laid-start}
use Rattle.device.proofs.WritingLaws.{password-parts, logon-seven}
use native.Mathlib.Omega.{arith}
use Rattle.device.proofs.string.put_logon.Goals as goal

pub put_text-requires : goal.put_text-requires
put_text-requires c =
    let narrow = (password-parts c.args.password c.requires.0).1 in
    let kept = c.write_logon-n.auto.text in
    (rw (laid-start c.write_logon-n.ensures) (logon-seven _ narrow), rw length-take (omega arith))

pub returns : goal.returns
returns c = rw (laid-start c.write_logon-n.ensures) at c.put_text.ensures
