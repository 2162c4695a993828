-- Cutting a transaction into blocks by the next cut, again and again; the two ways of cutting: to fill each block, or to keep
-- fields whole; and what writing the blocks comes to.
use Rattle.std.specs.Prelude.{Bool, true, false, List, [], ◌∷◌, ℕ, zero, suc, ◌+◌, ◌*◌, ◌/◌, leb, ltb, eqb, length, take, drop, get_or, if◌then◌else◌}
use Rattle.line.specs.Answer.{Outcome, done, refused}
use Rattle.line.specs.Character.{CR}
use Rattle.line.specs.Transaction.{ends_in_cr, of_transaction}
use Rattle.block.specs.Block.{Segment}
use Rattle.block.specs.Segments.{segment, segment_block, blocks_of}
use Rattle.block.specs.declared.frame.Ending.{Ending}
use Rattle.block.specs.declared.frame.Ending.TheVariants.{Etx, Etb, Us}
use Rattle.segmentation.specs.declared.way.Way.{Way}
use Rattle.segmentation.specs.declared.way.Way.TheVariants.{Filled, WholeFields}

-- the ending of a block that is not the last: ETB where its last field is complete, else US (R-3.2)
abbrev pub inner_ending : List ℕ → Ending
inner_ending info = if ends_in_cr info then Etb else Us

-- the ending of a block: ETX where it is the last (R-3.2)
abbrev pub ending_of : Bool → List ℕ → Ending
ending_of last info = if last then Etx else inner_ending info

-- at most so many blocks: what is left is cut again and again, each time behind as many characters as `cut` says,
-- until no more than that is left (R-3.2)
unfoldable pub segments_by : (List ℕ → ℕ) → ℕ → List ℕ → List Segment
segments_by cut zero t = []
segments_by cut (suc k) t =
    if leb (length t) (cut t) then segment t Etx ∷ []
    else segment (take (cut t) t) (inner_ending (take (cut t) t)) ∷ segments_by cut k (drop (cut t) t)

-- what is left behind the first i blocks
unfoldable pub behind : (List ℕ → ℕ) → ℕ → List ℕ → List ℕ
behind cut zero t = t
behind cut (suc i) t = drop (cut (behind cut i t)) (behind cut i t)

-- ── Filling each block ──

-- each block is filled to 250, and the rest is put in the last (R-3.2)
abbrev pub filled : List ℕ → ℕ
filled t = 250

-- the segmentation of a transaction: a block takes a character or more, so there are at most as many blocks as characters
-- (R-3.2)
unfoldable pub segmentation : List ℕ → List Segment
segmentation t = segments_by filled (length t) t

-- the number of its blocks: the information length divided by 250, rounded up (R-3.3)
abbrev pub block_count : ℕ → ℕ
block_count n = (n + 249) / 250

-- the i-th segment, from 0 (R-3.4)
abbrev pub segment_at : List ℕ → ℕ → Segment
segment_at t i = get_or (segmentation t) i (segment [] Etx)

-- ── Keeping fields whole ──

-- of at most so many characters, the most behind which a field is complete; 0 where there are none such (R-3.6)
unfoldable pub complete : ℕ → List ℕ → ℕ
complete zero t = 0
complete (suc n) t = if ends_in_cr (take (suc n) t) then suc n else complete n t

-- each block takes as many complete fields as fit into 250; where not even one does, 250 characters, but then the transaction
-- is refused and never cut so (R-3.6, R-3.8)
unfoldable pub whole_fields : List ℕ → ℕ
whole_fields t = if eqb (complete 250 t) 0 then 250 else complete 250 t

-- every field has at most 250 characters with its CR, the first at most so many (R-3.8)
unfoldable pub fields_within : ℕ → List ℕ → Bool
fields_within left [] = true
fields_within zero (c ∷ t) = false
fields_within (suc left) (c ∷ t) = fields_within (if eqb c CR then 250 else left) t

-- ── Either way ──

-- how many characters the next block takes (R-3.2, R-3.6)
abbrev pub cut_by : Way → List ℕ → ℕ
cut_by Filled = filled
cut_by WholeFields = whole_fields

-- the segmentation of a transaction in a way (R-3.2, R-3.6)
unfoldable pub segmentation_by : Way → List ℕ → List Segment
segmentation_by way t = segments_by (cut_by way) (length t) t

-- its i-th segment, from 0 (R-3.4)
abbrev pub segment_at_by : Way → List ℕ → ℕ → Segment
segment_at_by way t i = get_or (segmentation_by way t) i (segment [] Etx)

-- a way can cut a transaction: no field is too long for it (R-3.8)
abbrev pub cuttable : Way → List ℕ → Bool
cuttable Filled t = true
cuttable WholeFields t = fields_within 250 t

-- what is done with information, unless it is no transaction, or one that the way cannot cut: 2, 3 and 6 by the information,
-- then 2 by a field (R-1.8, R-3.8)
abbrev pub of_cuttable : {A : Type 0} → Way → List ℕ → Outcome A → Outcome A
of_cuttable way t whole = of_transaction t (if cuttable way t then whole else refused 2)

-- the i-th block of a transaction, from 0, into a buffer of so many bytes. Filled: 9 where there is no such block, 1 where the
-- buffer is short, 2, 3 and 6 by the information. Whole fields: 1 under 256, 2, 3 and 6 by the information, 2 by a field, 9 (R-3.4)
unfoldable pub write_segment : Way → List ℕ → ℕ → ℕ → Outcome (List ℕ)
write_segment Filled t i room =
    if leb (length (segmentation t)) i then refused 9
    else if ltb room (length (segment_at t i).info + 6) then refused 1
    else of_transaction t (done (segment_block (segment_at t i)))
write_segment WholeFields t i room =
    if ltb room 256 then refused 1
    else of_cuttable WholeFields t
    (if leb (length (segmentation_by WholeFields t)) i then refused 9
    else done (segment_block (segment_at_by WholeFields t i)))

-- the bytes that all blocks need: filled, by the length given: information plus 6 a block; whole fields, 15 blocks of the
-- longest transaction (R-3.5)
abbrev pub room_for : Way → List ℕ → ℕ
room_for Filled t = length t + 6 * length (segmentation t)
room_for WholeFields t = 2090

-- all blocks of a transaction into a buffer of so many bytes:
-- 1 where it is short; 2, 3 and 6 by the information, 2 by a field (R-3.5)
unfoldable pub write_segments : Way → List ℕ → ℕ → Outcome (List ℕ)
write_segments way t room =
    if ltb room (room_for way t) then refused 1
    else of_cuttable way t (done (blocks_of (segmentation_by way t)))
