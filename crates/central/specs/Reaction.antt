-- What the central does with what it heard: over messages, its state and a journal, whatever that is made of.
use Rattle.std.specs.Prelude.{Bool, List, [], ◌∷◌, ◌++◌, map, ℕ, ◌+◌, eqb, ltb, length, if◌then◌else◌}
use Rattle.line.specs.Character.{ACK, CR, EOT, ESC, NAK, RS}
use Rattle.line.specs.Parity.{with_parity}
use Rattle.line.specs.Test.{same}
use Rattle.line.specs.Text.{bytes_of}
use Rattle.block.specs.Segments.{continues}
use Rattle.journal.specs.Storage.{Storage}
use Rattle.admission.specs.Content.{admits}
use Rattle.central.specs.Hearing.{Heard, silence, noise, hello, hello_again, logon, bye, block, misfit}
use Rattle.central.specs.declared.state.Stage.{Stage}
use Rattle.central.specs.declared.state.Stage.TheVariants.{Idle, Logon, Block, Closed}

-- what the central answers (R-7.4)
pub data Answer : Type 0 where
  nothing idRequest acceptance ack nak rs hangUp : Answer

-- the characters of an answer (R-7.4)
abbrev pub answer_text : Answer → List ℕ
answer_text nothing = []
answer_text idRequest = bytes_of "ID=" ++ CR ∷ []
answer_text acceptance = CR ∷ ACK ∷ CR ∷ ESC ∷ bytes_of "[p" ++ CR ∷ []
answer_text ack = CR ∷ ACK ∷ CR ∷ []
answer_text nak = CR ∷ NAK ∷ CR ∷ []
answer_text rs = CR ∷ RS ∷ CR ∷ []
answer_text hangUp = CR ∷ ESC ∷ EOT ∷ CR ∷ []

-- the bytes of an answer on the line (R-7.4)
abbrev pub answer_bytes : Answer → List ℕ
answer_bytes a = map with_parity (answer_text a)

-- the central's rules: its password, the longest transaction (L), the retry limit (C), the pager list; and how its journal
-- stores (R-7.1)
pub record Rules (J : Type 0) : Type 0 where
  pub password : List ℕ
  pub longest : ℕ
  pub retries : ℕ
  pub pagers : List ℕ
  pub storage : Storage J

-- a whole transaction is admitted to the journal so far: by the content rules and by room (R-8.1)
abbrev pub meets : {J : Type 0} → Rules J → J → List ℕ → Bool
meets r journal t = admits r.longest r.pagers r.storage journal t

-- the central: its stage, the failures in a row, the unfinished information, the journal (R-7.2)
pub record Central (J : Type 0) : Type 0 where
  pub stage : Stage
  pub failures : ℕ
  pub pending : List ℕ
  pub journal : J

-- the central after a string, and its answer
pub record Reaction (J : Type 0) : Type 0 where
  pub next : Central J
  pub answer : Answer

-- a journal type
module _ {J : Type 0} where
  -- nothing is answered, and nothing changes (R-7.5)
  abbrev pub stays : Central J → Reaction J
  stays c = record { next = c; answer = nothing }

  -- the central in a stage at the start of a row of failures, with this information unfinished (R-7.5)
  abbrev pub at : Stage → List ℕ → J → Central J
  at stage pending journal = record { stage = stage; failures = 0; pending = pending; journal = journal }

  -- a failure gets NAK; the one after C in a row, ESC EOT, and the central closes (R-7.5)
  abbrev pub fails : Rules J → Central J → Reaction J
  fails r c =
      if eqb c.failures r.retries then record { next = at Closed [] c.journal; answer = hangUp }
      else
      record {
        next = record { stage = c.stage; failures = c.failures + 1; pending = c.pending; journal = c.journal };
        answer = nak;
      }

  -- a logon: `PG1` with the equal password is accepted (R-7.5)
  abbrev pub logs_on_with : Rules J → Central J → List ℕ → Reaction J
  logs_on_with r c text =
      if same text (bytes_of "PG1" ++ r.password) then record { next = at Block [] c.journal; answer = acceptance }
      else fails r c

  -- a block is refused, and the transaction so far is dropped (R-7.5)
  abbrev pub drops : Central J → Reaction J
  drops c = record { next = at Block [] c.journal; answer = rs }

  -- a whole transaction is appended and acknowledged (R-7.5, R-7.6)
  abbrev pub stores : Rules J → Central J → List ℕ → Reaction J
  stores r c t = record { next = at Block [] (r.storage.put c.journal t); answer = ack }

  -- a block whose information is right, with which the transaction so far is t: refused over L, and at its end unless it is
  -- admitted; else acknowledged, and at its end appended first (R-7.5)
  abbrev pub takes : Rules J → Central J → List ℕ → Bool → Reaction J
  takes r c t goes_on =
      if ltb r.longest (length t) then drops c
      else if goes_on then record { next = at Block t c.journal; answer = ack }
      else if meets r c.journal t then stores r c t
      else drops c

  -- what the central does with what its stage heard (R-7.5)
  unfoldable pub reacts : Rules J → Central J → (stage : Stage) → Heard stage → Reaction J
  reacts r c stage silence = stays c
  reacts r c Idle hello = record { next = at Logon [] c.journal; answer = idRequest }
  reacts r c Idle noise = stays c
  reacts r c Logon hello_again = record { next = c; answer = idRequest }
  reacts r c Logon (logon text) = logs_on_with r c text
  reacts r c Logon noise = fails r c
  reacts r c Block bye = record { next = at Closed [] c.journal; answer = hangUp }
  reacts r c Block (block g) = takes r c (c.pending ++ g.info) (continues g.ending)
  reacts r c Block misfit = drops c
  reacts r c Block noise = fails r c
  reacts r c Closed noise = stays c
