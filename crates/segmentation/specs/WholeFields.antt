-- Whole fields as document 02 has them (wish 3): what a block of complete fields is, and when no more of them would have fitted.
use Rattle.std.specs.Prelude.{List, [], ◌∷◌, ◌++◌, ℕ, ◌+◌, ◌≤◌, ◌<◌, length}
use Rattle.line.specs.Transaction.{Fields}
use Rattle.block.specs.Block.{Segment}
use Rattle.block.specs.Segments.{segment}
use Rattle.block.specs.declared.frame.Ending.TheVariants.{Etx, Etb}

-- each field with its CR has at most 250 characters (R-3.8)
abbrev pub EachFits : List (List ℕ) → Type 0
EachFits [] = Unit {0}
EachFits (f ∷ fs) = (length f + 1 ≤ 250) × EachFits fs

-- one or more complete fields, of at most 250 characters together (R-3.6)
pub record CompleteFields (info : List ℕ) : Type 0 where
  pub fields : List (List ℕ)
  pub made : Fields fields info
  pub some : 1 ≤ length fields
  pub fits : length info ≤ 250

-- as many complete fields in each block as fit: the last block ends in ETX; any other in ETB, and the first field of the next,
-- with its CR, would not have fitted (R-3.6)
pub data CutWhole : List Segment → List ℕ → Type 0 where
  last : {info : List ℕ} → CompleteFields info → CutWhole (segment info Etx ∷ []) info
  more : {info t f : List ℕ} {fs : List (List ℕ)} {ss : List Segment} →
      CompleteFields info → Fields (f ∷ fs) t → 250 < length info + (length f + 1) → CutWhole ss t →
      CutWhole (segment info Etb ∷ ss) (info ++ t)
