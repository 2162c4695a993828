-- The model's parameters, its messages, and what damage does to them. What a journal is, which transactions it admits and how a transaction is cut
-- into blocks are parameters (`Parameters`); so are the limits (`Limits`).
use mathlib.Core.Bool.{Bool, not, ◌&&◌, ◌||◌}
use mathlib.Core.List.{List, [], ◌∷◌}
use lib.Dec.{eqb}
use Prim.Native.Nat.{ℕ}
use Rattle.block.specs.Block.{Segment}
use Rattle.block.specs.Segments.{continues}
use Rattle.central.specs.Reaction.{Answer, nothing, idRequest, acceptance, ack, nak, rs, hangUp}
use Rattle.device.specs.declared.state.Verdict.{Verdict}

-- ── What is given ──

-- the block ends its transaction
abbrev pub last : Segment → Bool
last b = not (continues b.ending)

-- a list of blocks that is not empty
pub record Blocks : Type 0 where
  pub first : Segment
  pub more : List Segment

-- a journal, which transactions it admits, how one is put into it, which fit at all, and how one is cut
pub record Parameters : Type 1 where
  pub J : Type 0
  pub admits : J → List ℕ → Bool
  pub put : J → List ℕ → J
  pub fits : List ℕ → Bool
  pub cut : List ℕ → Blocks
  -- the passwords are equal
  pub match : Bool

-- how often the device repeats a string, and how many failures in a row the central answers
pub record Limits : Type 0 where
  pub D : ℕ
  pub C : ℕ

-- ── Messages ──

-- what the device transmits, and what the central hears
pub data Message : Type 0 where
  silence noise hello login bye : Message
  carries : Segment → Message

-- a number for each answer, to tell them apart
abbrev number : Answer → ℕ
number nothing = 0
number idRequest = 1
number acceptance = 2
number ack = 3
number nak = 4
number rs = 5
number hangUp = 6

infix 40 ◌is◌
-- an answer is this one
abbrev pub ◌is◌ : Answer → Answer → Bool
x is y = eqb (number x) (number y)

-- ── The central's test of a block ──

module _ (R : Parameters) where
  open R use {J, admits, fits}

  -- a block b with which the information of its transaction so far is t
  abbrev pub refused : J → List ℕ → Segment → Bool
  refused j t b = not (fits t) || (last b && not (admits j t))

-- ── Damage ──

-- a string arrives whole, or not at all, or so that nothing is recognized in it
pub data Effect : Type 0 where
  whole lost garbled : Effect

-- what happens to a string, and what to its answer
pub data Effects : Type 0 where
  effects : Effect → Effect → Effects

-- what the central hears of a message
abbrev pub arrives : Effect → Message → Message
arrives whole c = c
arrives lost c = silence
arrives garbled c = noise

-- what the device reads of an answer
abbrev pub returns : Effect → Answer → Answer
returns whole x = x
returns lost x = nothing
returns garbled x = nothing

-- past the end of the list all is whole
abbrev pub next : List Effects → Effects
next [] = effects whole whole
next (d ∷ ds) = d

-- ── What a run comes to ──

-- the verdict of each transaction of the job, and the journal
pub record Result (J : Type 0) : Type 0 where
  pub verdicts : List Verdict
  pub journal : J
