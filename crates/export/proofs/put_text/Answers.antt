-- `put_text` meets its contract: the output has room behind what is there, so the text is copied there.
use Rattle.export.proofs.ExportLaws.{copied_adds}
use Rattle.export.proofs.put_text.Goals as goal

pub returns : goal.returns
returns c = copied_adds c.args.at c.args.text.now c.args.out.now _ c.requires c.copy.ensures
