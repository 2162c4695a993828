-- What the entry device does with a reply (document 01, "The desk's steps"): over replies and places in the job.
use Rattle.std.specs.Prelude.{Bool, Option, Some, None, List, [], ◌∷◌, ◌++◌, map, ℕ, ◌+◌, ltb, eqb, length, get_or, if◌then◌else◌}
use Rattle.line.specs.Character.{CR, EOT, ESC}
use Rattle.line.specs.Parity.{with_parity}
use Rattle.line.specs.Password.{password_text}
use Rattle.line.specs.Text.{bytes_of}
use Rattle.block.specs.Block.{Segment}
use Rattle.block.specs.Segments.{segment, segment_block}
use Rattle.block.specs.declared.frame.Ending.TheVariants.{Etx}
use Rattle.segmentation.specs.Segmentation.{segmentation_by}
use Rattle.reply.specs.declared.Meaning.TheVariants.{IdRequest, Acceptance, Ack, Nak, Rs, Eot}
use Rattle.reply.specs.Reading.{Reply}
use Rattle.device.specs.declared.reaction.Code.{Code}
use Rattle.device.specs.declared.reaction.Code.TheVariants as Codes
use Rattle.device.specs.declared.reaction.Move as Moving
use Rattle.device.specs.declared.state.Given.{Given}
use Rattle.device.specs.declared.state.Place.{Place}
use Rattle.device.specs.declared.state.Report.{Report}
use Rattle.device.specs.declared.state.Report.TheVariants as Reporting
use Rattle.device.specs.declared.state.Settings.{Settings}
use Rattle.device.specs.declared.state.Step.{Step}
use Rattle.device.specs.declared.state.Step.TheVariants.{Opening, Logon, Sending, Closing, Stopped}
use Rattle.device.specs.declared.state.Verdict.{Verdict}
use Rattle.device.specs.declared.state.Verdict.TheVariants.{Accepted, Rejected, Unconfirmed, Deferred, Unsent, InDoubt}

-- the same settings with another retry limit
abbrev pub with_retries : Settings → ℕ → Settings
with_retries settings n = record { password = settings.password; retries = n; way = settings.way; confirmation = settings.confirmation }

-- ── Verdicts ──

-- the papers' number of each verdict (R-6.6)
abbrev pub verdict_number : Verdict → ℕ
verdict_number Accepted = 1
verdict_number Rejected = 2
verdict_number Unconfirmed = 3
verdict_number Deferred = 4
verdict_number Unsent = 5
verdict_number InDoubt = 6

-- a verdict, and the transaction that it is given to (R-6.6)
abbrev pub given : ℕ → Verdict → Given
given t v = record { transaction = t; verdict = v }

-- what is given in document 01's numbers: the transaction and the number of its verdict, where there is one (R-6.6)
abbrev pub given_as : Option Given → Option (ℕ × ℕ)
given_as (Some g) = Some (g.transaction, verdict_number g.verdict)
given_as None = None

-- ── Places ──

-- a place in the job, and the attempts there (R-6.2)
abbrev pub place : ℕ → ℕ → ℕ → Place
place t b n = record { transaction = t; block = b; attempts = n }

-- the first attempt of a step that sends no block (R-6.2)
abbrev pub first : Place
first = place 0 0 1

-- the same place, once more (R-6.2)
abbrev pub again : Place → Place
again p = place p.transaction p.block (p.attempts + 1)

-- ── What is sent ──

-- the segments of a transaction, cut in the way that the settings name (R-6.3)
unfoldable pub segments_of : Settings → List ℕ → List Segment
segments_of settings t = segmentation_by settings.way t

-- how many blocks a transaction of the job takes (R-6.4)
abbrev pub blocks_in : Settings → List (List ℕ) → ℕ → ℕ
blocks_in settings job t = length (segments_of settings (get_or job t []))

-- the segment at a place in the job (R-6.3)
abbrev pub segment_in : Settings → List (List ℕ) → Place → Segment
segment_in settings job p = get_or (segments_of settings (get_or job p.transaction [])) p.block (segment [] Etx)

-- the text of a logon (R-6.3)
abbrev pub logon_text : List ℕ → List ℕ
logon_text password = ESC ∷ bytes_of "PG1" ++ password ++ CR ∷ []

-- the string that a step sends (R-6.3)
abbrev pub string_text : Settings → List (List ℕ) → Step → List ℕ
string_text settings job (Opening p) = CR ∷ []
string_text settings job (Logon p) = logon_text (password_text settings.password)
string_text settings job (Sending p) = segment_block (segment_in settings job p)
string_text settings job (Closing p) = EOT ∷ CR ∷ []
string_text settings job Stopped = []

-- its bytes on the line (R-6.3)
abbrev pub bytes_of_string : Settings → List (List ℕ) → Step → List ℕ
bytes_of_string settings job step = map with_parity (string_text settings job step)

-- ── Moves ──

-- the step behind a reply, the verdict it gives, and what it reports
pub record Move : Type 0 where
  pub next : Step
  pub given : Option Given
  pub report : Report

-- on to a step, with no verdict (R-6.4)
abbrev pub goes : Step → Move
goes step = record { next = step; given = None; report = Reporting.Nothing }

-- on to a step, with a verdict on a transaction (R-6.4)
abbrev pub gives : ℕ → Verdict → Step → Move
gives t v step = record { next = step; given = Some (given t v); report = Reporting.Nothing }

-- the end of the call, with the reply to the close (R-6.4)
abbrev pub reports : Reply → Move
reports r = record { next = Stopped; given = None; report = Reporting.Close r }

-- a move as the code hands it on
abbrev pub move_as : Moving.Move → Move
move_as m = record { next = m.step; given = m.given; report = m.report }

-- the first block of a transaction, or the close where the job has no such transaction (R-6.4)
abbrev pub onwards : List (List ℕ) → ℕ → Step
onwards job t = if ltb t (length job) then Sending (place t 0 1) else Closing first

-- the string may be sent again: at most D + 1 times in all (R-6.4)
abbrev pub may_repeat : Settings → Place → Bool
may_repeat settings p = ltb p.attempts (settings.retries + 1)

-- ── Opening ──

-- CR again, three times at most (R-6.4)
abbrev pub opens_again : Place → Move
opens_again p = if ltb p.attempts 3 then goes (Opening (again p)) else goes Stopped

-- an ID request: the logon; else CR again (R-6.4)
abbrev pub opens : Place → Reply → Move
opens p (Some IdRequest) = goes (Logon first)
opens p (Some Acceptance) = opens_again p
opens p (Some Ack) = opens_again p
opens p (Some Nak) = opens_again p
opens p (Some Rs) = opens_again p
opens p (Some Eot) = opens_again p
opens p None = opens_again p

-- ── Logon ──

-- the logon again, D + 1 times at most (R-6.4)
abbrev pub logs_on_again : Settings → Place → Move
logs_on_again settings p = if may_repeat settings p then goes (Logon (again p)) else goes Stopped

-- NAK or an ID request: again; an acceptance: the first transaction; anything else, unread included: stop (R-6.4)
abbrev pub logs_on : Settings → List (List ℕ) → Place → Reply → Move
logs_on settings job p (Some Nak) = logs_on_again settings p
logs_on settings job p (Some IdRequest) = logs_on_again settings p
logs_on settings job p (Some Acceptance) = goes (onwards job 0)
logs_on settings job p (Some Ack) = goes Stopped
logs_on settings job p (Some Rs) = goes Stopped
logs_on settings job p (Some Eot) = goes Stopped
logs_on settings job p None = goes Stopped

-- ── Block ──

-- a reply as this step reads it: one of the four codes; all else, an ID request and a logon acceptance too, is unread
-- (R-6.4, R-6.5)
abbrev pub block_reply : Reply → Option Code
block_reply (Some Ack) = Some Codes.Ack
block_reply (Some Nak) = Some Codes.Nak
block_reply (Some Rs) = Some Codes.Rs
block_reply (Some Eot) = Some Codes.Eot
block_reply (Some IdRequest) = None
block_reply (Some Acceptance) = None
block_reply None = None

-- the next block, or accepted and the next transaction, where the block ended its own (R-6.4)
abbrev pub sends_next : Settings → List (List ℕ) → Place → Move
sends_next settings job p =
    if eqb (p.block + 1) (blocks_in settings job p.transaction)
    then gives p.transaction Accepted (onwards job (p.transaction + 1))
    else goes (Sending (place p.transaction (p.block + 1) 1))

-- the block again, D + 1 times at most, then deferred (R-6.4)
abbrev pub sends_again : Settings → Place → Move
sends_again settings p =
    if may_repeat settings p then goes (Sending (again p))
    else gives p.transaction Deferred Stopped

-- ACK: the next block; NAK: again; RS: rejected, and the next transaction; ESC EOT: deferred, stop;
-- all else: unconfirmed, stop, and never sent again (R-6.4, R-6.5)
abbrev pub sends_on : Settings → List (List ℕ) → Place → Option Code → Move
sends_on settings job p (Some Codes.Ack) = sends_next settings job p
sends_on settings job p (Some Codes.Nak) = sends_again settings p
sends_on settings job p (Some Codes.Rs) = gives p.transaction Rejected (onwards job (p.transaction + 1))
sends_on settings job p (Some Codes.Eot) = gives p.transaction Deferred Stopped
sends_on settings job p None = gives p.transaction Unconfirmed Stopped

-- so a reply to a block is taken as this step reads it (R-6.4)
abbrev pub sends : Settings → List (List ℕ) → Place → Reply → Move
sends settings job p r = sends_on settings job p (block_reply r)

-- ── Closing ──

-- the close again, D + 1 times at most, then the NAK is reported (R-6.4)
abbrev pub closes_again : Settings → Place → Move
closes_again settings p = if may_repeat settings p then goes (Closing (again p)) else reports (Some Nak)

-- NAK: again; any other reply, unread too, is reported (R-6.4)
abbrev pub closes : Settings → Place → Reply → Move
closes settings p (Some Nak) = closes_again settings p
closes settings p (Some IdRequest) = reports (Some IdRequest)
closes settings p (Some Acceptance) = reports (Some Acceptance)
closes settings p (Some Ack) = reports (Some Ack)
closes settings p (Some Rs) = reports (Some Rs)
closes settings p (Some Eot) = reports (Some Eot)
closes settings p None = reports None

-- ── Every step ──

-- what the device does with a reply, step by step (R-6.4)
unfoldable pub moves : Settings → List (List ℕ) → Step → Reply → Move
moves settings job (Opening p) r = opens p r
moves settings job (Logon p) r = logs_on settings job p r
moves settings job (Sending p) r = sends settings job p r
moves settings job (Closing p) r = closes settings p r
moves settings job Stopped r = goes Stopped
