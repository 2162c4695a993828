-- What the gateway does with a command: over messages, its session and a journal, whatever that is made of.
use Rattle.std.specs.Prelude.{not, List, [], ◌∷◌, ◌++◌, ℕ, ◌+◌, ◌/◌, ◌%◌, if◌then◌else◌, Option, None, Some}
use Rattle.line.specs.Character.{CR, LF, printable}
use Rattle.line.specs.Test.{all}
use Rattle.journal.specs.Storage.{Storage}
use Rattle.admission.specs.Content.{is_pager_id, admits}
use Rattle.snpp.specs.Command.{Command, page, message, send, reset, quit, SPACE}

-- what the gateway answers; `ready` is the greeting (R-15.2)
pub data Answer : Type 0 where
  nothing ready success goodbye unknown order badText failed : Answer

-- RFC 1861's number of an answer; where nothing is answered there is none (R-15.2)
abbrev pub answer_number : Answer → Option ℕ
answer_number nothing = None
answer_number ready = Some 220
answer_number goodbye = Some 221
answer_number success = Some 250
answer_number unknown = Some 500
answer_number order = Some 503
answer_number badText = Some 550
answer_number failed = Some 554

-- a number of three digits, as they are written
abbrev pub digits_of : ℕ → List ℕ
digits_of n = (0x30 + n / 100) ∷ (0x30 + n / 10 % 10) ∷ (0x30 + n % 10) ∷ []

-- a number as an answer: with a space and CR LF behind it (R-15.2)
abbrev pub numbered : Option ℕ → List ℕ
numbered None = []
numbered (Some n) = digits_of n ++ SPACE ∷ CR ∷ LF ∷ []

-- the bytes of an answer (R-15.2)
abbrev pub answer_text : Answer → List ℕ
answer_text a = numbered (answer_number a)

-- what has been entered since the last SEND or RESE (R-15.3)
pub record Entry : Type 0 where
  pub pager : Option (List ℕ)
  pub message : Option (List ℕ)

-- nothing has
abbrev pub empty : Entry
empty = record { pager = None; message = None }

-- a session: still going on, or over (R-15.3)
pub data Session : Type 0 where
  ongoing : Entry → Session
  closed : Session

-- the session after a line, the journal, and the answer
pub record Reaction (J : Type 0) : Type 0 where
  pub next : Session
  pub journal : J
  pub answer : Answer

-- a page as a transaction: pager ID, CR, message, CR (R-15.6)
abbrev pub page_of : List ℕ → List ℕ → List ℕ
page_of pager text = pager ++ CR ∷ (text ++ CR ∷ [])

-- a journal type
module _ {J : Type 0} where
  -- the session goes on with this entered, over this journal, and answers
  abbrev pub goes_on : Entry → J → Answer → Reaction J
  goes_on e journal a = record { next = ongoing e; journal = journal; answer = a }

  -- PAGE: 1 to 8 digits, and the latest counts; another text changes nothing (R-15.4)
  abbrev pub takes_pager : Entry → J → List ℕ → Reaction J
  takes_pager e journal text =
      if is_pager_id text then goes_on (record { pager = Some text; message = e.message }) journal success
      else goes_on e journal badText

  -- MESS with a right text, by the message that is there: a second one changes nothing (R-15.5)
  abbrev pub holds_message : Entry → J → List ℕ → Option (List ℕ) → Reaction J
  holds_message e journal text None = goes_on (record { pager = e.pager; message = Some text }) journal success
  holds_message e journal text (Some earlier) = goes_on e journal order

  -- MESS: characters 20 to 7E or none; another text changes nothing, whether a message is there or not (R-15.5)
  abbrev pub takes_message : Entry → J → List ℕ → Reaction J
  takes_message e journal text = if not (all printable text) then goes_on e journal badText else holds_message e journal text e.message

-- a gateway's rules: the longest transaction (L), the pager list, and how its journal stores
module _ {J : Type 0} (most : ℕ) (pagers : List ℕ) (store : Storage J) where
  -- SEND with both: admitted and stored, or failed and not; both are forgotten (R-15.6)
  abbrev pub offers : J → List ℕ → Reaction J
  offers journal t =
      if admits most pagers store journal t then goes_on empty (store.put journal t) success
      else goes_on empty journal failed

  -- SEND, by what has been entered: without both nothing changes (R-15.6)
  abbrev pub sends : Entry → J → Option (List ℕ) → Option (List ℕ) → Reaction J
  sends e journal (Some pager) (Some text) = offers journal (page_of pager text)
  sends e journal (Some pager) None = goes_on e journal order
  sends e journal None m = goes_on e journal order

  -- what a session that goes on does with a command (R-15.3)
  abbrev pub follows : Entry → J → Option Command → Reaction J
  follows e journal None = goes_on e journal unknown
  follows e journal (Some (page text)) = takes_pager e journal text
  follows e journal (Some (message text)) = takes_message e journal text
  follows e journal (Some send) = sends e journal e.pager e.message
  follows e journal (Some reset) = goes_on empty journal success
  follows e journal (Some quit) = record { next = closed; journal = journal; answer = goodbye }

  -- what a session does with a command: nothing once it is over (R-15.3, R-15.7)
  unfoldable pub reacts : Session → J → Option Command → Reaction J
  reacts (ongoing e) journal c = follows e journal c
  reacts closed journal c = record { next = closed; journal = journal; answer = nothing }
