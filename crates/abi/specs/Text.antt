-- Blocks whose ending is given by its character.
use Rattle.std.specs.Prelude.{List, ℕ, eqb, if◌then◌else◌}
use Rattle.line.specs.Answer.{Outcome, refused}
use Rattle.line.specs.Character.{ETX, ETB, US}
use Rattle.block.specs.Block.{write_block}
use Rattle.block.specs.declared.frame.Ending.TheVariants.{Etx, Etb, Us}

-- a block with the ending of this character: 9 where it is none
unfoldable pub write_ended : List ℕ → ℕ → ℕ → Outcome (List ℕ)
write_ended info c room =
    if eqb c ETX then write_block info Etx room
    else if eqb c ETB then write_block info Etb room
    else if eqb c US then write_block info Us room
    else refused 9
