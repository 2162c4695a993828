-- What is heard: by its length, by what taking parity off gives, and by what reading it as a block gives.
use mathlib.Core.Bool.{true, ◌&&◌, false≢true, and_assoc}
use mathlib.Core.List.{List, [], ◌∷◌, ◌++◌}
use mathlib.Core.Path.{◌≡◌, refl}
use Prim.Native.Nat.{ℕ}
use native.Mathlib.Omega.{arith}
use lib.Dec.{eqb}
use lib.ListN.{length, take, drop}
use lib.Pointwise.{pointwise}
use Rattle.line.specs.Answer.{Outcome, done, refused, map_done}
use Rattle.line.specs.Parity.{parity_off}
use Rattle.line.specs.Test.{same}
use Rattle.block.specs.Block.{Segment, inside, right, read_block}
use Rattle.block.specs.declared.frame.Ending.{Ending}
use Rattle.block.proofs.FrameLaws.{read_write, read_done}
use Rattle.central.specs.Hearing.{silence, block, heard_block, heard_text, heard}
use Rattle.central.specs.declared.state.Stage.{Stage}

-- a text is the same as two joined where it begins with the first and the rest is the second
pub begun : (xs a b : List ℕ) → same xs (a ++ b) ≡ (pointwise eqb (take (length a) xs) a && same (drop (length a) xs) b)
unfolding same
begun xs [] b = refl
begun [] (y ∷ a) b = refl
begun (x ∷ xs) (y ∷ a) b = rw (begun xs a b, and_assoc)

-- nothing came
pub heard-silence : (stage : Stage) (string : List ℕ) → length string ≡ 0 → heard stage string ≡ silence
unfolding heard
heard-silence stage [] e = refl
heard-silence stage (b ∷ bs) e = absurd (omega arith)

-- something came
pub heard-text : (stage : Stage) (string : List ℕ) → (length string ≡ 0 → ⊥) → heard stage string ≡ heard_text stage (parity_off string 256)
unfolding heard
heard-text stage [] h = absurd (h refl)
heard-text stage (b ∷ bs) h = refl

-- a block that is read: its information is right, and it is heard with its ending
pub block-heard : (t : List ℕ) (e : Ending) → done e ≡ map_done (λ g. g.ending) (read_block t) →
    (right (inside t) e ≡ true) × (heard_block (read_block t) ≡ block (record { info = inside t; ending = e }))
block-heard t e = go (read_block t) refl
  where
    go : (o : Outcome Segment) → read_block t ≡ o → done e ≡ map_done (λ g. g.ending) o → (right (inside t) e ≡ true) × (heard_block o ≡ block (record { info = inside t; ending = e }))
    go (done g) r h =
        let same : e ≡ g.ending = cc in
        let info = (read_done t g r).information in
        (rw (same, info) (read_write t g r).2, rw (same, info))
    go (refused n) r h = absurd (false≢true cc)
