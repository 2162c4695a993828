use Rattle.block.proofs.ChecksumLaws.{fold-checksum}
use borrow.Author.Rules.{rules}
use Rattle.block.proofs.checksum.checksum.Goals as goal

pub loop-c-init : goal.loop-c-init
loop-c-init c = (search rules, fold-checksum c.args.text.now)
