-- `play` meets its contract: between two transmissions the saved states hold what is left of the run, each transmission leaves the device fewer, and with no string the run has come to its end, and the verdicts are settled as the device said.
use mathlib.Core.Path.{◌≡◌}
use mathlib.Core.Bool.{true}
use lib.ListN.{length}
use Rattle.line.specs.Answer.{output}
use Rattle.line.specs.Character.{byte}
use Rattle.line.specs.Test.{all}
use Rattle.journal.specs.Storage.{decode_in}
use Rattle.journal.specs.Walk.{decode}
use Rattle.device.specs.Bound.{transmissions_left}
use Rattle.call.specs.Inner.{setup_of}
use Rattle.call.proofs.LoopLaws.{Going}
use Rattle.call.proofs.run.play.Given as goal

abbrev pub invariant-loop-ends : goal.invariant-loop-ends
invariant-loop-ends l = (length l.journal ≡ length l.initial.journal) × (length l.pending ≡ length l.initial.pending) × (length l.memory ≡ length l.initial.memory) × (length l.verdicts ≡ length l.initial.verdicts) × (all byte l.journal ≡ true) ×
    Going (setup_of l.setup) (output (decode_in l.initial.journal l.initial.ends.central.journal)) l.faults l.initial.journal l.ends l.transmissions l.journal l.pending l.memory l.verdicts

abbrev pub decreases-loop-ends : goal.decreases-loop-ends
decreases-loop-ends l = transmissions_left l.setup.device (output (decode l.setup.job.now)) l.ends.device.step
