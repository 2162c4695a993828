-- The segments of a legal transaction, however the settings cut it: they join to the transaction again, so that there is one, there are at most 15, and each block is short enough and made of 7-bit values.
use mathlib.Core.Bool.{true}
use mathlib.Core.List.{List, []}
use mathlib.Core.Path.{◌≡◌}
use Prim.Native.Nat.{ℕ, ◌≤◌, ◌<◌}
use lib.ListN.{length, get_or}
use Rattle.line.specs.Character.{seven}
use Rattle.line.specs.Test.{all}
use Rattle.line.specs.Transaction.{legal}
use Rattle.block.specs.Block.{right}
use Rattle.block.specs.Segments.{segment, Joins, segment_block}
use Rattle.block.specs.declared.frame.Ending.TheVariants.{Etx}
use Rattle.block.proofs.SegmentsLaws.{joins-some, joins_at, joins-short, joins-seven}
use Rattle.segmentation.proofs.SegmentationByLaws.{by_few, by_joins}
use Rattle.device.specs.Reaction.{segments_of}
use Rattle.device.specs.declared.state.Settings.{Settings}

module _ (settings : Settings) (t : List ℕ) (good : legal t ≡ true) where
  -- they join to it again
  pub segments_join : Joins (segments_of settings t) t
  unfolding segments_of
  segments_join = by_joins settings.way t good

  -- there is one
  pub segments_some : 1 ≤ length (segments_of settings t)
  segments_some = joins-some segments_join

  -- and at most 15
  pub segments_few : length (segments_of settings t) ≤ 15
  unfolding segments_of
  segments_few = by_few settings.way t good

  -- one of them
  module _ (i : ℕ) (h : i < length (segments_of settings t)) where
    -- it is short enough, and right for its ending
    pub segments_right : let g = get_or (segments_of settings t) i (segment [] Etx) in (length g.info ≤ 250) × (right g.info g.ending ≡ true)
    segments_right = joins_at segments_join i h

    -- its block fits into 256 bytes
    pub segments_short : length (segment_block (get_or (segments_of settings t) i (segment [] Etx))) ≤ 256
    segments_short = joins-short segments_join i h

    -- and is made of 7-bit values
    pub segments_seven : all seven (segment_block (get_or (segments_of settings t) i (segment [] Etx))) ≡ true
    segments_seven = joins-seven segments_join i h
