-- What a driver does that takes lines in one after the other, and what comes of it.
use Rattle.std.specs.Prelude.{Bool, true, not, ◌&&◌, List, [], ◌∷◌, ◌++◌, map, ◌≡◌, ℕ, ◌≤◌, eqb, leb, length, take}
use Rattle.line.specs.Answer.{done}
use Rattle.line.specs.Character.{CR, LF, byte}
use Rattle.line.specs.Test.{all}
use Rattle.journal.specs.Encoding.{encode}
use Rattle.journal.specs.Storage.{size_of, is_buffer, stored_in}
use Rattle.admission.specs.Content.{number_from, first_field, listed}
use Rattle.central.specs.Step.{pagers_in_range}
use Rattle.export.specs.Export.{second_field, transactions_of, written_out}
use Rattle.snpp.specs.Reaction.{Answer, success, empty, Session, ongoing, Reaction}
use Rattle.snpp.specs.State.{saved}
use Rattle.snpp.specs.Step.{stepped, start_state}
use Rattle.snpp.specs.declared.state.Settings.{Settings}
use Rattle.snpp.specs.declared.state.State.{State}

-- no CR is among the bytes
abbrev pub no_return : List ℕ → Bool
no_return bytes = all (λ c. not (eqb c CR)) bytes

-- a text as lines, their endings off: each has CR LF behind it, and no CR within (R-15.11)
pub data Lines : List ℕ → List (List ℕ) → Type 0 where
  none : Lines [] []
  next : {line text : List ℕ} {lines : List (List ℕ)} → no_return line ≡ true → Lines text lines →
      Lines (line ++ CR ∷ LF ∷ text) (line ∷ lines)

-- what a driver keeps: the state, and the journal of so many bytes at the start of its buffer
pub record Gateway : Type 0 where
  pub state : State
  pub buffer : List ℕ
  pub length : ℕ

-- what it keeps behind a step that is done, as `Steps` has it
abbrev pub after : Gateway → Reaction (List (List ℕ)) → Gateway
after g x = record { state = saved x.next; buffer = stored_in (done x.journal) g.buffer; length = size_of x.journal }

-- lines taken in one after the other, each step done: the answers, and what is kept behind them (R-15.11)
pub data Takes (settings : Settings) (pagers : List ℕ) (room : ℕ) : Gateway → List (List ℕ) → List Answer → Gateway → Type 0 where
  over : {g : Gateway} → Takes settings pagers room g [] [] g
  line : {g g' : Gateway} {l : List ℕ} {ls : List (List ℕ)} {answers : List Answer} {x : Reaction (List (List ℕ))} →
      stepped g.state settings pagers g.buffer g.length l room ≡ done x → Takes settings pagers room (after g x) ls answers g' →
      Takes settings pagers room g (l ∷ ls) (x.answer ∷ answers) g'

-- a state to which the start leads: the start itself, and what a step leaves (R-15.8)
pub data Reached : State → Type 0 where
  begun : Reached start_state
  onward : {s : State} {x : Reaction (List (List ℕ))} → Reached s →
      (settings : Settings) (pagers buffer : List ℕ) (n : ℕ) (line : List ℕ) (room : ℕ) →
      stepped s settings pagers buffer n line room ≡ done x → Reached (saved x.next)

-- ── The round trip ──

-- every pager that the records name is listed
unfoldable pub all_listed : List ℕ → List (List ℕ) → Bool
all_listed pagers [] = true
all_listed pagers (t ∷ ts) = listed (number_from 0 (first_field t)) pagers && all_listed pagers ts

-- no message is empty
unfoldable pub none_empty : List (List ℕ) → Bool
none_empty [] = true
none_empty (t ∷ ts) = leb 1 (length (second_field t)) && none_empty ts

-- a gateway in such a session, whose buffer holds the bytes of this journal
pub record Holding (x : Session) (ts : List (List ℕ)) (g : Gateway) : Type 0 where
  pub state : g.state ≡ saved x
  pub buffer : is_buffer g.buffer ≡ true
  pub count : g.length ≡ size_of ts
  pub journal : take g.length g.buffer ≡ encode ts

-- a text taken in by a gateway, every line answered with 250, until its buffer holds the bytes of this journal
pub record TakenIn (settings : Settings) (pagers : List ℕ) (room : ℕ) (g : Gateway) (text journal : List ℕ) : Type 0 where
  pub lines : List (List ℕ)
  pub cut : Lines text lines
  pub behind : Gateway
  pub taken : Takes settings pagers room g lines (map (λ _. success) lines) behind
  pub same : take behind.length behind.buffer ≡ journal

-- a journal that is written out, and the gateway that is to take it in again
pub record Exported (journal text pagers : List ℕ) (settings : Settings) (g : Gateway) (room : ℕ) : Type 0 where
  -- it is written out as this text, into an output of some size
  pub size : ℕ
  pub written : written_out journal size ≡ done text
  -- no message is empty. Nothing leans on this as long as the content rules admit an empty one
  pub messages : none_empty (transactions_of journal) ≡ true
  -- every pager is listed, and L is 2,000
  pub pagers-listed : all_listed pagers (transactions_of journal) ≡ true
  pub pagers-right : pagers_in_range pagers ≡ true
  pub longest : settings.longest ≡ 2000
  -- the gateway is at its start, over an empty journal, and has room for an answer
  pub empty-journal : Holding (ongoing empty) [] g
  pub roomy : 6 ≤ room

-- the round trip: what is written out and taken in again is the same journal (R-15.11)
abbrev pub RoundTrip : Type 0
RoundTrip =
    (journal text pagers : List ℕ) (settings : Settings) (g : Gateway) (room : ℕ) → all byte journal ≡ true →
    Exported journal text pagers settings g room → TakenIn settings pagers room g text journal
