-- `put_text` meets its contract: the text fits and is made of 7-bit values, so it is put out with parity, and counted.
use Rattle.line.proofs.NumberLaws.{laid-count}
use Rattle.line.proofs.ParityLaws.{parity-made}
use Rattle.device.proofs.string.put_text.Goals as goal

pub returns : goal.returns
returns c = laid-count (parity-made _ _ c.requires.0 c.requires.1) c.set_parity.ensures c.count.ensures
