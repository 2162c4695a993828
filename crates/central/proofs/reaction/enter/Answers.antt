-- `enter` meets its contract: nothing is unfinished, and the array and the journal stay.
use Rattle.central.proofs.ReactedLaws.{shows-none}
use Rattle.central.proofs.reaction.enter.Goals as goal

pub returns : goal.returns
returns c =
    let a = c.args in
    λ array ts h. shows-none a.control a.stage a.answer array ts
