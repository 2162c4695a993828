-- `stay` meets its contract: a central that did not change is as it was.
use mathlib.Core.Path.{refl}
use Rattle.central.proofs.ReactedLaws.{shows_kept}
use Rattle.central.proofs.reaction.stay.Goals as goal

pub returns : goal.returns
returns c =
    let k = c.args.control in
    λ array ts h. shows_kept k k.failures c.args.answer _ array ts refl h
