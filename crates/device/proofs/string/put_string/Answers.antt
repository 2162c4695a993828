-- `put_string` meets its contract: each step's string is put out by its own function.
use mathlib.Core.Path.{refl}
use Rattle.line.specs.Test.{all}
use Rattle.line.proofs.LaidLaws.{laid_none}
use Rattle.device.specs.Reaction.{segments_of}
use Rattle.device.proofs.WaitLaws.{waits-cut, waits-parts}
use native.Mathlib.Omega.{arith}
use Rattle.device.proofs.string.put_string.Goals as goal

pub put_text-requires : goal.put_text-requires
unfolding all
put_text-requires c = (refl, omega arith)

pub put_segment-requires : goal.put_segment-requires
unfolding segments_of
put_segment-requires c =
    let (job, waits) = c.requires.1 in
    let sends = rw c.in-Sending.is at waits in
    let (_, good, block) = waits-parts c.args.settings job c.in-Sending.place c.args.info.now sends in
    (good, waits-cut c.args.settings job c.in-Sending.place c.args.info.now sends, block, omega arith)

pub put_text-requires-in-Closing : goal.put_text-requires-in-Closing
unfolding all
put_text-requires-in-Closing c = (refl, omega arith)

pub returns-in-Sending : goal.returns-in-Sending
unfolding segments_of
returns-in-Sending c =
    λ job waits.
    let shows = (rw c.in-Sending.is at waits).shows in
    rw (c.in-Sending.is, shows) c.put_segment.ensures

pub returns-in-Stopped : goal.returns-in-Stopped
returns-in-Stopped c = λ job waits. rw c.in-Stopped.is (laid_none _)
