-- `moves` meets its contract: each step reacts by its own function, and a place that exists has a transaction and a block.
use mathlib.Core.Path.{sym}
use Rattle.device.specs.Reaction.{moves}
use Rattle.device.proofs.reaction.moves.Goals as goal

pub returns-in-Opening : goal.returns-in-Opening
unfolding moves
returns-in-Opening c = λ job count waits. rw c.in-Opening.is c.opens.ensures

pub returns-in-Logon : goal.returns-in-Logon
unfolding moves
returns-in-Logon c = λ job count waits. rw c.in-Logon.is (c.logs_on.ensures job count)

pub returns-in-Sending : goal.returns-in-Sending
unfolding moves
returns-in-Sending c =
    λ job count waits.
    let step = c.in-Sending.is in
    let shows = (rw step at waits).shows in
    rw step (c.sends.ensures job count (rw shows (sym c.blocks_of-blocks.ensures)))

pub returns-in-Closing : goal.returns-in-Closing
unfolding moves
returns-in-Closing c = λ job count waits. rw c.in-Closing.is c.closes.ensures

pub returns-in-Stopped : goal.returns-in-Stopped
unfolding moves
returns-in-Stopped c = λ job count waits. rw c.in-Stopped.is c.goes.ensures
