-- The blocks of a transaction offered to the central, one string after the other, as a caller sends them.
use Rattle.std.specs.Prelude.{Bool, true, false, List, [], ◌∷◌, map, ℕ, if◌then◌else◌}
use Rattle.line.specs.Parity.{with_parity}
use Rattle.block.specs.Block.{Segment}
use Rattle.block.specs.Segments.{segment_block}
use Rattle.central.specs.Hearing.{heard}
use Rattle.central.specs.Reaction.{Answer, nothing, idRequest, acceptance, ack, nak, rs, hangUp, Rules, Central, Reaction, reacts}

-- a block as it goes on the line (R-4.5)
abbrev pub block_string : Segment → List ℕ
block_string g = map with_parity (segment_block g)

-- the answer is ACK
abbrev pub acknowledges : Answer → Bool
acknowledges nothing = false
acknowledges idRequest = false
acknowledges acceptance = false
acknowledges ack = true
acknowledges nak = false
acknowledges rs = false
acknowledges hangUp = false

-- the central after strings, and its answers to them
pub record Offered (J : Type 0) : Type 0 where
  pub central : Central J
  pub answers : List Answer

module _ {J : Type 0} (r : Rules J) where
  -- what the central does with a string
  abbrev pub responds : Central J → List ℕ → Reaction J
  responds c string = reacts r c c.stage (heard c.stage string)

  -- string after string, until one is not acknowledged (R-4.5)
  unfoldable pub offers : Central J → List (List ℕ) → Offered J
  offers c [] = record { central = c; answers = [] }
  offers c (s ∷ ss) =
      let x = responds c s in
      if acknowledges x.answer then record { central = (offers x.next ss).central; answers = x.answer ∷ (offers x.next ss).answers }
      else record { central = x.next; answers = x.answer ∷ [] }
