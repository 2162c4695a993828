-- Places in a job of legal transactions: each transaction has a block, and a place that exists is one of a transaction and a block.
use mathlib.Core.Bool.{true, and-eq-true_iff}
use mathlib.Core.List.{List, []}
use mathlib.Core.Path.{◌≡◌}
use Prim.Native.Nat.{ℕ, ◌≤◌, ◌<◌}
use borrow.Author.Tests.{ltb-true}
use lib.Dec.{ltb}
use lib.ListN.{length, get_or}
use Rattle.journal.specs.Encoding.{all_legal}
use Rattle.journal.proofs.RecordLaws.{legal-at}
use Rattle.device.specs.Reaction.{blocks_in}
use Rattle.device.specs.Step.{somewhere}
use Rattle.device.specs.declared.state.Place.{Place}
use Rattle.device.specs.declared.state.Settings.{Settings}
use Rattle.device.proofs.SegmentsLaws.{segments_some}

module _ (settings : Settings) (ts : List (List ℕ)) where
  -- a transaction of a legal job has a block
  pub blocks-some : (t : ℕ) → all_legal ts ≡ true → t < length ts → 1 ≤ blocks_in settings ts t
  blocks-some t good h = segments_some settings (get_or ts t []) (legal-at ts t good h)

  -- the transaction of a place that exists, and its block
  pub somewhere-parts : (p : Place) → somewhere settings ts p ≡ true → (p.transaction < length ts) × (p.block < blocks_in settings ts p.transaction)
  somewhere-parts p h =
      let (t, b) = (and-eq-true_iff (ltb p.transaction (length ts)) (ltb p.block (blocks_in settings ts p.transaction))).0 h in
      (ltb-true _ _ t, ltb-true _ _ b)
