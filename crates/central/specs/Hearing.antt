-- What the central recognizes in a string off the line, stage by stage (document 01's "names").
use Rattle.std.specs.Prelude.{Bool, ◌&&◌, List, [], ◌∷◌, ℕ, ◌-◌, eqb, leb, length, take, drop, if◌then◌else◌}
use Rattle.line.specs.Answer.{Outcome, done, refused}
use Rattle.line.specs.Character.{CR, EOT, ESC, alphanumeric}
use Rattle.line.specs.Parity.{parity_off}
use Rattle.line.specs.Test.{all, same}
use Rattle.block.specs.Block.{Segment, read_block}
use Rattle.central.specs.declared.state.Stage.{Stage}
use Rattle.central.specs.declared.state.Stage.TheVariants.{Idle, Logon, Block, Closed}

-- what a stage hears in a string (R-7.3)
pub data Heard : Stage → Type 0 where
  -- nothing came
  silence : {stage : Stage} → Heard stage
  -- nothing that the stage recognizes
  noise : {stage : Stage} → Heard stage
  -- CR
  hello : Heard Idle
  -- CR once more
  hello_again : Heard Logon
  -- ESC, these letters and digits, CR
  logon : List ℕ → Heard Logon
  -- EOT CR
  bye : Heard Block
  -- a block
  block : Segment → Heard Block
  -- a block in a right frame with wrong information
  misfit : Heard Block

-- the characters between the first and the last
abbrev pub middle : List ℕ → List ℕ
middle t = take (length t - 2) (drop 1 t)

-- ESC, 3 to 9 letters or digits, CR (R-7.3)
abbrev pub logs_on : List ℕ → Bool
logs_on t =
    leb 5 (length t) && leb (length t) 11 &&
    same (take 1 t) (ESC ∷ []) && all alphanumeric (middle t) && same (drop (length t - 1) t) (CR ∷ [])

-- a text as a block: what is right in length, STX, ending, check and CR is one, whatever its information (R-7.3)
abbrev pub heard_block : Outcome Segment → Heard Block
heard_block (done g) = block g
heard_block (refused n) = if eqb n 6 then misfit else noise

-- what a stage recognizes in a text without parity (R-7.3)
unfoldable pub recognized : (stage : Stage) → List ℕ → Heard stage
recognized Idle t = if same t (CR ∷ []) then hello else noise
recognized Logon t = if same t (CR ∷ []) then hello_again else if logs_on t then logon (middle t) else noise
recognized Block t = if same t (EOT ∷ CR ∷ []) then bye else heard_block (read_block t)
recognized Closed t = noise

-- the same where parity could be taken off
abbrev pub heard_text : (stage : Stage) → Outcome (List ℕ) → Heard stage
heard_text stage (done t) = recognized stage t
heard_text stage (refused n) = noise

-- what a stage hears in a string off the line; no string that a stage recognizes is longer than 256 (R-7.3)
unfoldable pub heard : (stage : Stage) → List ℕ → Heard stage
heard stage [] = silence
heard stage (b ∷ bs) = heard_text stage (parity_off (b ∷ bs) 256)
