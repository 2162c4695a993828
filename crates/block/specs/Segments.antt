-- Segments of a transaction: information with the endings it is sent with. Which cuttings of a transaction are legal.
use Rattle.std.specs.Prelude.{Bool, true, false, ◌≡◌, ℕ, ◌≤◌, length}
use mathlib.Core.List.{List, [], ◌∷◌, ◌++◌, flat_map}
use Rattle.line.specs.Transaction.{Transaction}
use Rattle.block.specs.Block.{Segment, right, block_of}
use Rattle.block.specs.declared.frame.Ending.{Ending}
use Rattle.block.specs.declared.frame.Ending.TheVariants.{Etx, Etb, Us}

-- information with an ending (R-3.1)
abbrev pub segment : List ℕ → Ending → Segment
segment info e = record { info = info; ending = e }

-- the block of a segment (R-3.1)
abbrev pub segment_block : Segment → List ℕ
segment_block g = block_of g.info g.ending

-- blocks one after the other (R-3.5)
abbrev pub blocks_of : List Segment → List ℕ
blocks_of gs = flat_map segment_block gs

-- the transaction goes on behind this ending (R-2.2)
abbrev pub continues : Ending → Bool
continues Etx = false
continues Etb = true
continues Us = true

-- blocks of at most 250 characters, each right for its ending, the transaction ending with ETX and there alone,
-- and what their information joins to (R-3.1)
pub data Joins : List Segment → List ℕ → Type 0 where
  last : {info : List ℕ} → length info ≤ 250 → right info Etx ≡ true → Joins (segment info Etx ∷ []) info
  more : {info t : List ℕ} {e : Ending} {ss : List Segment} → length info ≤ 250 → right info e ≡ true → continues e ≡ true →
      Joins ss t → Joins (segment info e ∷ ss) (info ++ t)

-- a legal cutting of a transaction (document 01, "Blocks") (R-3.1)
pub record LegalSegmentation (ss : List Segment) (t : List ℕ) : Type 0 where
  pub transaction : Transaction t
  pub joins : Joins ss t
