-- What the device sends of a transaction, in whatever way its settings cut it, is joined to that transaction again.
use mathlib.Core.Bool.{true}
use mathlib.Core.List.{List, map}
use mathlib.Core.Path.{◌≡◌}
use Prim.Native.Nat.{ℕ, ◌≤◌}
use lib.ListN.{length}
use Rattle.line.specs.Answer.{done}
use Rattle.line.specs.Transaction.{legal}
use Rattle.line.proofs.TransactionLaws.{legal-transaction}
use Rattle.block.specs.Segments.{segment_block}
use Rattle.segmentation.proofs.SegmentationByLaws.{by_legal}
use Rattle.reassembly.specs.Reassembly.{rejoin, start}
use Rattle.reassembly.proofs.ReassemblyLaws.{rejoins}
use Rattle.device.specs.Reaction.{segments_of}
use Rattle.device.specs.declared.state.Settings.{Settings}

-- its blocks rejoin to it
pub sent-rejoins : (settings : Settings) (t : List ℕ) → legal t ≡ true → (buffer : List ℕ) → 2000 ≤ length buffer →
    rejoin start buffer (map segment_block (segments_of settings t)) ≡ done (record { state = record { length = length t; complete = true }; joined = t })
unfolding segments_of
sent-rejoins settings t good buffer room = rejoins (by_legal settings.way t (legal-transaction t good)) buffer room
