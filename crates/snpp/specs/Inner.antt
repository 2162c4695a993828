-- What the functions inside a step ask and owe. They work on a saved state in two parts: its control, and the array of the message.
use Rattle.std.specs.Prelude.{Bool, true, false, not, ◌&&◌, List, ◌≡◌, ℕ, ◌≤◌, length, if◌then◌else◌, Option, None, Some}
use Rattle.line.specs.Answer.{done, overlay}
use Rattle.line.specs.Character.{printable}
use Rattle.line.specs.Test.{all}
use Rattle.journal.specs.Storage.{transactions, size_of, stored_in}
use Rattle.admission.specs.Content.{is_pager_id, admits}
use Rattle.central.specs.Inner.{Readable, transactions_in}
use Rattle.snpp.specs.Command as Lines
use Rattle.snpp.specs.Reaction.{Answer, nothing, success, goodbye, unknown, order, badText, failed, Reaction, reacts, page_of}
use Rattle.snpp.specs.State.{no_digits, in_range, saved, session_of}
use Rattle.snpp.specs.declared.answer.Answer as Code
use Rattle.snpp.specs.declared.answer.Answer.TheVariants.{Nothing, Success, Goodbye, Unknown, Order, BadText, Failed}
use Rattle.snpp.specs.declared.command.Command as Word
use Rattle.snpp.specs.declared.command.Command.TheVariants as word
use Rattle.snpp.specs.declared.reaction.Reacted.{Reacted}
use Rattle.snpp.specs.declared.state.Control.{Control}
use Rattle.snpp.specs.declared.state.Settings.{Settings}
use Rattle.snpp.specs.declared.state.Stage.{Stage}
use Rattle.snpp.specs.declared.state.Stage.TheVariants.{Open, Entered, Closed}
use Rattle.snpp.specs.declared.state.State.{State}

-- the command that the code found
abbrev pub command_of : Word.Command → Lines.Command
command_of (word.Page text) = Lines.page text.now
command_of (word.Message text) = Lines.message text.now
command_of word.Send = Lines.send
command_of word.Reset = Lines.reset
command_of word.Quit = Lines.quit

-- what the code answers
abbrev pub answer_of : Code.Answer → Answer
answer_of Nothing = nothing
answer_of Success = success
answer_of Goodbye = goodbye
answer_of Unknown = unknown
answer_of Order = order
answer_of BadText = badText
answer_of Failed = failed

-- the state that a control and the array of the message are
abbrev pub state_of : Control → List ℕ → State
state_of k array = record { stage = k.stage; pager = k.pager; digits = k.digits; message = array; length = k.length }

-- what passed the tests of a step, as far as the work behind them leans on it
pub record Ready (settings : Settings) (k : Control) (array buffer : List ℕ) (n : ℕ) : Type 0 where
  pub longest : settings.longest ≤ 2000
  pub range : in_range (state_of k array) ≡ true
  pub digits : length k.pager ≡ 8
  pub sized : length array ≡ 2043
  pub journal : Readable buffer n

-- what the session does with a command, over the journal of n bytes in the buffer
abbrev pub reacts_in : Settings → List ℕ → Control → List ℕ → List ℕ → ℕ → Option Lines.Command → Reaction (List (List ℕ))
reacts_in settings pagers k array buffer n c =
    reacts settings.longest pagers transactions (session_of (state_of k array)) (transactions_in buffer n) c

-- the answer, the state, the journal's length and its buffer are a reaction's
pub record Does (x : Reaction (List (List ℕ))) (r : Reacted) (array' buffer buffer' : List ℕ) : Type 0 where
  pub answers : answer_of r.answer ≡ x.answer
  pub state : state_of r.control array' ≡ saved x.next
  pub counts : r.journal ≡ size_of x.journal
  pub stored : buffer' ≡ stored_in (done x.journal) buffer

-- a message has been entered
abbrev pub is_entered : Stage → Bool
is_entered Open = false
is_entered Entered = true
is_entered Closed = false

-- this control and answer, over a journal of n bytes
abbrev pub staying : Control → Code.Answer → ℕ → Reacted
staying k a n = record { answer = a; control = k; journal = n }

-- nothing has been entered
abbrev pub emptied : Stage → Code.Answer → ℕ → Reacted
emptied stage a n = staying (record { stage = stage; pager = no_digits; digits = 0; length = 0 }) a n

-- the control with this pager ID
abbrev pub with_pager : Control → List ℕ → Control
with_pager k text = record { stage = k.stage; pager = overlay text no_digits; digits = length text; length = k.length }

-- PAGE with a text
abbrev pub pager_taken : Control → List ℕ → ℕ → Reacted
pager_taken k text n = if is_pager_id text then staying (with_pager k text) Success n else staying k BadText n

-- a message may be entered: the text is right, and it is the first
abbrev pub is_first : Control → List ℕ → Bool
is_first k text = all printable text && not (is_entered k.stage)

-- MESS with a text
pub record Enters (k : Control) (text : List ℕ) (n : ℕ) (r : Reacted) (array array' : List ℕ) : Type 0 where
  pub reacted : r ≡
      (if not (all printable text) then staying k BadText n
      else if is_entered k.stage then staying k Order n
      else staying (record { stage = Entered; pager = k.pager; digits = k.digits; length = length text }) Success n)
  pub laid : array' ≡ (if is_first k text then overlay text array else array)

-- the journal of n bytes in the buffer admits a page
abbrev pub admits_page : ℕ → List ℕ → List ℕ → ℕ → List ℕ → List ℕ → Bool
admits_page most pagers buffer n pager text = admits most pagers transactions (transactions_in buffer n) (page_of pager text)

-- the transactions of that journal, and the page behind them
abbrev pub with_page : List ℕ → ℕ → List ℕ → List ℕ → List (List ℕ)
with_page buffer n pager text = transactions.put (transactions_in buffer n) (page_of pager text)

-- a page is offered to that journal: its new length where the page is admitted, and what the buffer holds then
pub record Offers (most : ℕ) (pagers : List ℕ) (n : ℕ) (pager text : List ℕ) (r : Option ℕ) (buffer buffer' : List ℕ) : Type 0 where
  pub answers : r ≡ (if admits_page most pagers buffer n pager text then Some (size_of (with_page buffer n pager text)) else None)
  pub leaves : buffer' ≡
      stored_in (done (if admits_page most pagers buffer n pager text then with_page buffer n pager text else transactions_in buffer n)) buffer
