-- One step of the central (document 01, "The central's steps"): recognize, react, answer.
use Rattle.std.specs.Prelude.{Bool, not, ◌&&◌, List, ◌≡◌, ℕ, leb, ltb, eqb, length, take, replicate, if◌then◌else◌}
use Rattle.line.specs.Answer.{Outcome, done, refused, map_done, output, overlay, outcome_of}
use Rattle.line.specs.Character.{textual}
use Rattle.line.specs.Password.{password_text, password_in_range}
use Rattle.line.specs.Test.{all}
use Rattle.journal.specs.Storage.{transactions, decode_in, size_of, stored_in}
use Rattle.central.specs.Hearing.{heard}
use Rattle.central.specs.Reaction.{Rules, Central, Reaction, reacts, answer_bytes}
use Rattle.central.specs.declared.state.Settings.{Settings}
use Rattle.central.specs.declared.state.Stage.{Stage}
use Rattle.central.specs.declared.state.Stage.TheVariants.{Idle, Logon, Block, Closed}
use Rattle.central.specs.declared.state.State.{State}
use Rattle.central.specs.declared.state.Stepped.{Stepped}

-- settings in range: a password, the longest transaction from 3 to 2,000, the retry limit at most 9 (R-7.1)
abbrev pub settings_in_range : Settings → Bool
settings_in_range s = password_in_range s.password && leb 3 s.longest && leb s.longest 2000 && leb s.retries 9

-- a pager list in range: at most 1,000 numbers below 100,000,000 (R-7.1)
abbrev pub pagers_in_range : List ℕ → Bool
pagers_in_range pagers = leb (length pagers) 1000 && all (λ n. ltb n 100000000) pagers

-- the unfinished information
abbrev pub pending_text : State → List ℕ
pending_text s = take s.length s.pending

-- a row of failures at a stage: at most C, and 0 in Idle and Closed (R-7.8)
abbrev pub failures_in_range : Stage → ℕ → ℕ → Bool
failures_in_range Idle most n = eqb n 0
failures_in_range Logon most n = leb n most
failures_in_range Block most n = leb n most
failures_in_range Closed most n = eqb n 0

-- unfinished information of this length at a stage: at most L, and none outside Block (R-7.8)
abbrev pub length_in_range : Stage → ℕ → ℕ → Bool
length_in_range Idle most n = eqb n 0
length_in_range Logon most n = eqb n 0
length_in_range Block most n = leb n most
length_in_range Closed most n = eqb n 0

-- a saved state in range (R-7.8, R-7.10)
abbrev pub state_in_range : Settings → State → Bool
state_in_range settings s =
    failures_in_range s.stage settings.retries s.failures &&
    length_in_range s.stage settings.longest s.length && all textual (pending_text s)

-- the rules that the settings and the pager list give, over a journal that is a list of transactions (R-7.1)
abbrev pub rules_of : Settings → List ℕ → Rules (List (List ℕ))
rules_of s pagers =
    record { password = password_text s.password; longest = s.longest; retries = s.retries; pagers = pagers; storage = transactions }

-- the central that a saved state and a journal are (R-7.2)
abbrev pub central_of : {J : Type 0} → State → J → Central J
central_of s journal = record { stage = s.stage; failures = s.failures; pending = pending_text s; journal = journal }

-- a central as a saved state, over a journal of n bytes; behind the unfinished information the array stays as it was (R-7.2)
abbrev pub saved : {J : Type 0} → Central J → ℕ → List ℕ → State
saved c n array =
    record { stage = c.stage; failures = c.failures; pending = overlay c.pending array; length = length c.pending; journal = n }

-- the tests of a step, in their order, and the transactions of the journal where they pass:
-- 9 where settings, pager list or state are out of range, 1 where the output is short of 7 or the journal's buffer has the
-- wrong size, 7 where the journal is not well formed (R-7.9)
unfoldable pub tested : State → Settings → List ℕ → List ℕ → ℕ → Outcome (List (List ℕ))
tested s settings pagers buffer room =
    if not (settings_in_range settings && pagers_in_range pagers && state_in_range settings s) then refused 9
    else if ltb room 7 then refused 1
    else decode_in buffer s.journal

-- a step: what the central does with what its stage hears in the string (R-7.5, R-11.4)
unfoldable pub stepped : State → Settings → List ℕ → List ℕ → List ℕ → ℕ → Outcome (Reaction (List (List ℕ)))
stepped s settings pagers buffer string room =
    map_done (λ ts. reacts (rules_of settings pagers) (central_of s ts) s.stage (heard s.stage string))
    (tested s settings pagers buffer room)

-- a reaction as a saved state (R-7.10)
abbrev pub saved_as : Reaction (List (List ℕ)) → List ℕ → State
saved_as x array = saved x.next (size_of x.next.journal) array

-- the state behind a step: a refusal leaves it (R-7.9)
abbrev pub state_behind : State → Outcome (Reaction (List (List ℕ))) → State
state_behind s (done x) = saved_as x s.pending
state_behind s (refused n) = s

-- what a step owes: the count, the state, the journal's buffer and the output (R-7.9)
pub record Steps (o : Outcome (Reaction (List (List ℕ)))) (s : State) (r : Stepped) (buffer buffer' out out' : List ℕ) : Type 0 where
  pub answers : outcome_of r.outcome ≡ map_done (λ x. length (answer_bytes x.answer)) o
  pub state : r.state ≡ state_behind s o
  pub stored : buffer' ≡ stored_in (map_done (λ x. x.next.journal) o) buffer
  pub leaves : out' ≡ overlay (output (map_done (λ x. answer_bytes x.answer) o)) out

-- the state before the first call, over a journal of n bytes (R-7.2)
abbrev pub start_of : ℕ → State
start_of n = record { stage = Idle; failures = 0; pending = replicate 2000 0; length = 0; journal = n }

-- the state once the line was dropped: the unfinished information is gone (R-7.7)
abbrev pub hung_up : State → State
hung_up s = record { stage = Idle; failures = 0; pending = s.pending; length = 0; journal = s.journal }

-- the line is dropped: 9 where settings or state are out of range (R-7.7)
unfoldable pub dropped : State → Settings → Outcome State
dropped s settings = if not (settings_in_range settings && state_in_range settings s) then refused 9 else done (hung_up s)

-- the state behind it: a refusal leaves it
abbrev pub behind_drop : State → Outcome State → State
behind_drop s (done s') = s'
behind_drop s (refused n) = s

-- what dropping the line owes: a count of nought, and the state (R-7.7)
pub record Drops (o : Outcome State) (s : State) (r : Stepped) : Type 0 where
  pub answers : outcome_of r.outcome ≡ map_done (λ _. 0) o
  pub state : r.state ≡ behind_drop s o
