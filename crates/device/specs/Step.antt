-- One step of the entry device: read, react, write.
use Rattle.std.specs.Prelude.{Option, None, Result, Bool, true, not, ◌&&◌, List, [], ◌∷◌, ◌≡◌, ℕ, ◌+◌, leb, ltb, eqb, length, if◌then◌else◌}
use Rattle.line.specs.Answer.{Outcome, done, refused, map_done, and_then, output, overlay, outcome_of}
use Rattle.line.specs.Password.{password_in_range}
use Rattle.line.specs.declared.answer.Refusal.{Refusal}
use Rattle.journal.specs.Walk.{decode}
use Rattle.segmentation.specs.Segmentation.{cuttable}
use Rattle.segmentation.specs.declared.way.Way.{Way}
use Rattle.reply.specs.Reading.{reply_read}
use Rattle.reply.specs.declared.remarks.Remarks.{Remarks}
use Rattle.device.specs.Reaction.{Move, moves, goes, given_as, blocks_in, first, bytes_of_string}
use Rattle.device.specs.Settling.{is_stopped, standing_at}
use Rattle.device.specs.declared.settling.Standing.{Standing}
use Rattle.device.specs.declared.settling.Standing.TheVariants.{Open}
use Rattle.device.specs.declared.state.Place.{Place}
use Rattle.device.specs.declared.state.Settings.{Settings}
use Rattle.device.specs.declared.state.State.{State}
use Rattle.device.specs.declared.state.Step.{Step}
use Rattle.device.specs.declared.state.Step.TheVariants.{Opening, Logon, Sending, Closing, Stopped}
use Rattle.device.specs.declared.state.Stepped.{Stepped}

-- settings in range: a password, and the retry limit at most 9 (R-6.1)
abbrev pub settings_in_range : Settings → Bool
settings_in_range s = password_in_range s.password && leb s.retries 9

-- attempts from 1 to the step's most (R-6.7)
abbrev pub attempts_in_range : ℕ → Place → Bool
attempts_in_range most p = leb 1 p.attempts && leb p.attempts most

-- the attempts of a saved step are 1 to the step's most (R-6.7, R-6.8)
abbrev pub step_in_range : Settings → Step → Bool
step_in_range settings (Opening p) = attempts_in_range 3 p
step_in_range settings (Logon p) = attempts_in_range (settings.retries + 1) p
step_in_range settings (Sending p) = attempts_in_range (settings.retries + 1) p
step_in_range settings (Closing p) = attempts_in_range (settings.retries + 1) p
step_in_range settings Stopped = true

-- outside sending, transaction and block are 0 (R-6.2)
abbrev pub nowhere : Place → Bool
nowhere p = eqb p.transaction 0 && eqb p.block 0

-- the job has such a transaction, and that such a block (R-6.2)
abbrev pub somewhere : Settings → List (List ℕ) → Place → Bool
somewhere settings job p = ltb p.transaction (length job) && ltb p.block (blocks_in settings job p.transaction)

-- the transaction and block of a saved step exist in the job (R-6.2, R-6.7, R-6.8)
abbrev pub exists : Settings → List (List ℕ) → Step → Bool
exists settings job (Opening p) = nowhere p
exists settings job (Logon p) = nowhere p
exists settings job (Sending p) = somewhere settings job p
exists settings job (Closing p) = nowhere p
exists settings job Stopped = true

-- the way can cut every transaction of the job: no field is too long for it (R-6.10)
unfoldable pub cuts_all : Way → List (List ℕ) → Bool
cuts_all way [] = true
cuts_all way (t ∷ ts) = cuttable way t && cuts_all way ts

-- the step behind a move, with the string it sends, and how the accepted verdicts stand there
pub record Sent : Type 0 where
  pub move : Move
  pub string : List ℕ
  pub standing : Standing

-- a move and the string of its step
abbrev pub sent : Settings → List (List ℕ) → Move → Sent
sent settings job m =
    record {
      move = m;
      string = bytes_of_string settings job m.next;
      standing = standing_at settings.confirmation m.next m.report;
    }

-- the tests of a step, in document 01's order: the transactions of the job, or
-- 9 where settings or attempts are out of range, 1 where the output is short of 256,
-- 7 where the job is not well formed, 2 where a field of it is too long for the way, 9 where transaction or block do not
-- exist in it (R-6.7, R-6.10)
unfoldable pub tested : Settings → Step → List ℕ → ℕ → Outcome (List (List ℕ))
tested settings step job room =
    if not (settings_in_range settings && step_in_range settings step) then refused 9
    else if ltb room 256 then refused 1
    else and_then (decode job) (λ ts.
    if not (cuts_all settings.way ts) then refused 2
    else if not (exists settings ts step) then refused 9
    else done ts)

-- a step: what the reply does, once the tests are passed (R-6.4, R-11.4)
unfoldable pub stepped : State → Settings → List ℕ → List ℕ → ℕ → Outcome Sent
stepped s settings job reply room =
    map_done (λ ts. sent settings ts (moves settings ts s.step (reply_read reply)))
    (tested settings s.step job room)

-- the start of a call: the first CR; a stopped device has nothing that the tests could refuse (R-6.4)
unfoldable pub started : Settings → List ℕ → ℕ → Outcome Sent
started settings job room = map_done (λ ts. sent settings ts (goes (Opening first))) (tested settings Stopped job room)

-- the move of an outcome; a refusal leaves the state (R-6.7)
abbrev pub move_of : Step → Outcome Sent → Move
move_of step (done x) = x.move
move_of step (refused n) = goes step

-- how the accepted verdicts stand behind an outcome: a step that is refused, or that comes behind the stop, leaves them open (R-6.11)
abbrev pub standing_of : Step → Outcome Sent → Standing
standing_of step (done x) = if is_stopped step then Open else x.standing
standing_of step (refused n) = Open

-- what is answered: the outcome, how the accepted verdicts stand, the remarks, and a move
abbrev pub answered : Result ℕ Refusal → Standing → Option Remarks → Move → Stepped
answered w standing remarks m =
    record {
      outcome = w;
      state = record { step = m.next };
      given = m.given;
      report = m.report;
      standing = standing;
      remarks = remarks;
    }

-- what a step owes: the count, the state, the verdict, its number, the report, how the accepted verdicts stand, and the output
-- (R-6.7, R-6.11)
pub record Steps (o : Outcome Sent) (step : Step) (r : Stepped) (out out' : List ℕ) : Type 0 where
  pub answers : outcome_of r.outcome ≡ map_done (λ x. length x.string) o
  pub state : r.state.step ≡ (move_of step o).next
  pub gave : r.given ≡ (move_of step o).given
  pub numbers : given_as r.given ≡ given_as (move_of step o).given
  pub reports : r.report ≡ (move_of step o).report
  pub stands : r.standing ≡ standing_of step o
  pub leaves : out' ≡ overlay (output (map_done (λ x. x.string) o)) out

-- the remarks that an outcome reports, of those in the reply: none where the step is refused (R-6.13)
abbrev pub reported_by : Outcome Sent → Option Remarks → Option Remarks
reported_by (done x) remarks = remarks
reported_by (refused n) remarks = None

-- what a step owes, and the remarks in its reply (R-6.13)
pub record StepsShowing (o : Outcome Sent) (step : Step) (remarks : Option Remarks) (r : Stepped) (out out' : List ℕ) : Type 0 where
  pub steps : Steps o step r out out'
  pub shows : r.remarks ≡ reported_by o remarks
