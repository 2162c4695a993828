-- What the functions inside a step ask and owe. They work on a saved state in two parts: its control, and the array of
-- unfinished information.
use Rattle.std.specs.Prelude.{Bool, true, List, ◌++◌, ◌≡◌, ℕ, ◌+◌, ◌≤◌, length, take, if◌then◌else◌}
use Rattle.line.specs.Answer.{done, output, overlay}
use Rattle.line.specs.Character.{textual}
use Rattle.line.specs.Test.{all}
use Rattle.journal.specs.Storage.{decode_in, size_of, stored_in}
use Rattle.central.specs.Hearing.{Heard}
use Rattle.central.specs.Reaction.{Answer, nothing, idRequest, acceptance, ack, nak, rs, hangUp, meets, Central, Reaction, stores, drops, takes, reacts}
use Rattle.central.specs.Step.{rules_of}
use Rattle.central.specs.declared.answer.Answer as Code
use Rattle.central.specs.declared.answer.Answer.TheVariants.{Nothing, IdRequest, Acceptance, Ack, Nak, Rs, HangUp}
use Rattle.central.specs.declared.reaction.Reacted.{Reacted}
use Rattle.central.specs.declared.state.Control.{Control}
use Rattle.central.specs.declared.state.Settings.{Settings}
use Rattle.central.specs.declared.state.Stage.{Stage}
use Rattle.central.specs.declared.state.Stage.TheVariants.{Block}

-- ── A saved state in two parts ──

-- the unfinished information at the start of the array
abbrev pub pending_in : Control → List ℕ → List ℕ
pending_in k array = take k.length array

-- the central that both and a journal are
abbrev pub central_at : {J : Type 0} → Control → List ℕ → J → Central J
central_at k array journal = record { stage = k.stage; failures = k.failures; pending = pending_in k array; journal = journal }

-- the control of a central, over a journal of n bytes
abbrev pub control_of : {J : Type 0} → Central J → ℕ → Control
control_of c n = record { stage = c.stage; failures = c.failures; length = length c.pending; journal = n }

-- ── What is asked ──

-- the transactions of the journal of n bytes at the start of a buffer
abbrev pub transactions_in : List ℕ → ℕ → List (List ℕ)
transactions_in buffer n = output (decode_in buffer n)

-- a journal of n bytes is read at the start of a buffer
abbrev pub Readable : List ℕ → ℕ → Type 0
Readable buffer n = decode_in buffer n ≡ done (transactions_in buffer n)

-- settings and a saved state in range, as far as the work inside a step leans on it, and a journal that is read
pub record Ready (settings : Settings) (k : Control) (array buffer : List ℕ) : Type 0 where
  pub password : settings.password.length ≤ 6
  pub longest : settings.longest ≤ 2000
  pub retries : settings.retries ≤ 9
  pub failures : k.failures ≤ settings.retries
  pub pending : k.length ≤ settings.longest
  pub sized : length array ≡ 2000
  pub characters : all textual (pending_in k array) ≡ true
  pub journal : Readable buffer k.journal

-- ── What is owed ──

-- what the code answers
abbrev pub answer_of : Code.Answer → Answer
answer_of Nothing = nothing
answer_of IdRequest = idRequest
answer_of Acceptance = acceptance
answer_of Ack = ack
answer_of Nak = nak
answer_of Rs = rs
answer_of HangUp = hangUp

-- what the central does at a stage with what it heard, over the journal in the buffer
abbrev pub reacts_in : Settings → List ℕ → Control → List ℕ → List ℕ → (stage : Stage) → Heard stage → Reaction (List (List ℕ))
reacts_in settings pagers k array buffer stage h =
    reacts (rules_of settings pagers) (central_at k array (transactions_in buffer k.journal)) stage h

-- the same with a block whose information is right, with which the transaction so far is t
abbrev pub takes_in : Settings → List ℕ → Control → List ℕ → List ℕ → List ℕ → Bool → Reaction (List (List ℕ))
takes_in settings pagers k array buffer t goes_on =
    takes (rules_of settings pagers) (central_at k array (transactions_in buffer k.journal)) t goes_on

-- and with a whole transaction
abbrev pub concludes_in : Settings → List ℕ → Control → List ℕ → List ℕ → List ℕ → Reaction (List (List ℕ))
concludes_in settings pagers k array buffer t =
    let r = rules_of settings pagers in
    let c = central_at k array (transactions_in buffer k.journal) in
    if meets r c.journal t then stores r c t else drops c

-- the answer and the control are a reaction's, which stores nothing and leaves the array as it is
pub record Shows (x : Reaction (List (List ℕ))) (k : Control) (array : List ℕ) (ts : List (List ℕ)) (r : Reacted) : Type 0 where
  pub answers : answer_of r.answer ≡ x.answer
  pub control : r.control ≡ control_of x.next k.journal
  pub kept : overlay x.next.pending array ≡ array
  pub keeps : x.next.journal ≡ ts

-- the same of what the central does, whatever the array and its journal hold
abbrev pub Does : (Central (List (List ℕ)) → Reaction (List (List ℕ))) → Control → Reacted → Type 0
Does f k r =
    (array : List ℕ) (ts : List (List ℕ)) → k.length ≤ length array → Shows (f (central_at k array ts)) k array ts r

-- the transaction goes on with this information
pub record Continues (k : Control) (info : List ℕ) (r : Reacted) (array array' : List ℕ) : Type 0 where
  pub reacted : r ≡
      record {
        answer = Ack;
        control = record { stage = Block; failures = 0; length = k.length + length info; journal = k.journal };
      }
  pub laid : array' ≡ overlay (pending_in k array ++ info) array

-- the answer, the control, the array and the journal's buffer are a reaction's
pub record Stores (x : Reaction (List (List ℕ))) (r : Reacted) (array array' buffer buffer' : List ℕ) : Type 0 where
  pub answers : answer_of r.answer ≡ x.answer
  pub control : r.control ≡ control_of x.next (size_of x.next.journal)
  pub pending : array' ≡ overlay x.next.pending array
  pub stored : buffer' ≡ stored_in (done x.next.journal) buffer
