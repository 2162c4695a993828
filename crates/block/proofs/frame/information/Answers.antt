-- `information` meets its contract: where the reader finds a block, its information is what stands inside; else there is none.
use mathlib.Core.List.{List}
use mathlib.Core.Path.{◌≡◌, refl, ◌∙◌}
use Prim.Native.Nat.{ℕ, ◌≤◌}
use lib.ListN.{length}
use Rattle.line.specs.Answer.{Outcome, done, refused, map_done, output}
use Rattle.block.specs.Block.{Segment, inside, read_block}
use Rattle.block.specs.declared.frame.Ending.{Ending}
use Rattle.block.proofs.FrameLaws.{read_done}
use native.Mathlib.Omega.{arith}
use Rattle.block.proofs.frame.information.Goals as goal

-- where a block is found, it has at least six characters, and its information is what the contract says
found : (s : List ℕ) (e : Ending) → done e ≡ map_done (λ g. g.ending) (read_block s) → (6 ≤ length s) × (inside s ≡ output (map_done (λ g. g.info) (read_block s)))
found s e h = go (read_block s) refl h
  where
    go : (o : Outcome Segment) → read_block s ≡ o → done e ≡ map_done (λ g. g.ending) o → (6 ≤ length s) × (inside s ≡ output (map_done (λ g. g.info) o))
    go (done g) r h = let d = read_done s g r in (d.tests.long, d.information)
    go (refused n) r h = let z : ◌≡◌ {A = ℕ} 0 1 = cc in absurd (omega arith)

pub returns : goal.returns
returns c =
    let found_at : (let s = c.args.s.now in
    (6 ≤ length s) × (inside s ≡ output (map_done (λ g. g.info) (read_block s)))) = found _ _ (rw c.in-Ok.is at c.read.ensures) in
    let (long, found) = found_at in
    let part = c.inside.ensures in
    record { holds = part.holds ∙ found; follows = λ g e. part.follows long }
