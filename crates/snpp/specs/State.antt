-- A session as it is saved, and which saved states are in range.
use Rattle.std.specs.Prelude.{Bool, true, false, ◌&&◌, List, [], ℕ, eqb, leb, length, take, drop, replicate, if◌then◌else◌, Option, None, Some}
use Rattle.std.specs.Option.{unwrap_or}
use Rattle.line.specs.Answer.{overlay}
use Rattle.line.specs.Character.{printable, digit}
use Rattle.line.specs.Test.{all}
use Rattle.snpp.specs.Reaction.{Entry, Session, ongoing, closed}
use Rattle.snpp.specs.declared.state.Stage.{Stage}
use Rattle.snpp.specs.declared.state.Stage.TheVariants.{Open, Entered, Closed}
use Rattle.snpp.specs.declared.state.State.{State}

-- the array of a pager ID with nothing in it
unfoldable pub no_digits : List ℕ
no_digits = replicate 8 0

-- the array of a message with nothing in it: a line of 2,048 bytes brings 2,043
unfoldable pub no_text : List ℕ
no_text = replicate 2043 0

-- the stage of a session that goes on: whether a message has been entered
abbrev pub stage_of : Option (List ℕ) → Stage
stage_of None = Open
stage_of (Some text) = Entered

-- an entry at a stage as it is saved: its texts at the start of the arrays, zeros behind them
abbrev pub saved_at : Stage → List ℕ → List ℕ → State
saved_at stage pager text =
    record { stage = stage; pager = overlay pager no_digits; digits = length pager; message = overlay text no_text; length = length text }

-- a session as it is saved (R-15.8)
abbrev pub saved : Session → State
saved (ongoing e) = saved_at (stage_of e.message) (unwrap_or e.pager []) (unwrap_or e.message [])
saved closed = saved_at Closed [] []

-- the pager ID that a state holds: a pager ID has a digit
abbrev pub pager_in : State → Option (List ℕ)
pager_in s = if eqb s.digits 0 then None else Some (take s.digits s.pager)

-- the message that a state holds
abbrev pub text_in : State → List ℕ
text_in s = take s.length s.message

-- the message at a stage: none until one has been entered
abbrev pub message_at : Stage → List ℕ → Option (List ℕ)
message_at Open text = None
message_at Entered text = Some text
message_at Closed text = None

-- what has been entered, as a state holds it
abbrev pub entry_in : State → Entry
entry_in s = record { pager = pager_in s; message = message_at s.stage (text_in s) }

-- the session is over
abbrev pub is_closed : Stage → Bool
is_closed Open = false
is_closed Entered = false
is_closed Closed = true

-- the session that a saved state is (R-15.8)
abbrev pub session_of : State → Session
session_of s = if is_closed s.stage then closed else ongoing (entry_in s)

-- a text of n characters of a kind at the start of an array, with zeros behind it
abbrev pub holds : (ℕ → Bool) → List ℕ → ℕ → Bool
holds kind array n = leb n (length array) && all kind (take n array) && all (λ b. eqb b 0) (drop n array)

-- the lengths that a pager ID and a message may have at a stage
abbrev pub fits : Stage → ℕ → ℕ → Bool
fits Open digits n = eqb n 0
fits Entered digits n = true
fits Closed digits n = eqb digits 0 && eqb n 0

-- a saved state in range. That is what the start can lead to, and nothing else: the laws `reached_in_range` and
-- `in_range-reached` (R-15.8)
unfoldable pub in_range : State → Bool
in_range s = holds digit s.pager s.digits && holds printable s.message s.length && fits s.stage s.digits s.length
