-- The model in the form that proofs like: each end's state holds what it still has to do, as lists.
use Rattle.std.specs.Prelude.{if◌then◌else◌}
use mathlib.Core.Bool.{Bool, true, false, ◌&&◌, ◌||◌}
use mathlib.Core.List.{List, [], ◌∷◌, ◌++◌, tail}
use mathlib.Core.Option.{Option, none, some}
use lib.Dec.{ltb, leb}
use lib.ListN.{length, replicate}
use Prim.Native.Nat.{ℕ, suc, zero}
use Rattle.block.specs.Block.{Segment}
use Rattle.central.specs.Reaction.{Answer, nothing, idRequest, acceptance, ack, nak, rs, hangUp}
use Rattle.device.specs.declared.state.Verdict.{Verdict}
use Rattle.device.specs.declared.state.Verdict.TheVariants.{Accepted, Rejected, Unconfirmed, Deferred, Unsent}
use Rattle.demand.proofs.Messages.{last, Parameters, Limits, Message, silence, noise, hello, login, bye, carries, ◌is◌, refused, Effect, Effects, effects, arrives, returns, next, Result}

-- ── The central ──

-- logon f: f failures in a row. blocks f p: these, and the pending information
pub data CentralPhase : Type 0 where
  idle closed : CentralPhase
  logon : ℕ → CentralPhase
  blocks : ℕ → List ℕ → CentralPhase

-- the central's step and journal behind a string, and its answer
pub record Response (J : Type 0) : Type 0 where
  pub step : CentralPhase
  pub journal : J
  pub answer : Answer

module _ (R : Parameters) where
  open R use {J, put}

  -- a block with which the transaction so far is t
  unfoldable pub takes : J → List ℕ → Segment → Response J
  takes j t b =
      if refused R j t b then record { step = blocks 0 []; journal = j; answer = rs }
      else if last b then record { step = blocks 0 []; journal = put j t; answer = ack }
      else record { step = blocks 0 t; journal = j; answer = ack }

module _ (R : Parameters) (L : Limits) where
  open R use {J, match}
  open L use {C}

  -- the answer to what is out of place after f failures, in the step `at`
  unfoldable pub failure : (ℕ → CentralPhase) → ℕ → J → Response J
  failure at f j =
      if ltb f C then record { step = at (suc f); journal = j; answer = nak }
      else record { step = closed; journal = j; answer = hangUp }

  -- what the central does with what it hears, step by step
  unfoldable pub hears : CentralPhase → J → Message → Response J
  hears s j silence = record { step = s; journal = j; answer = nothing }
  hears idle j noise = record { step = idle; journal = j; answer = nothing }
  hears idle j hello = record { step = logon 0; journal = j; answer = idRequest }
  hears idle j login = record { step = idle; journal = j; answer = nothing }
  hears idle j (carries b) = record { step = idle; journal = j; answer = nothing }
  hears idle j bye = record { step = idle; journal = j; answer = nothing }
  hears (logon f) j noise = failure logon f j
  hears (logon f) j hello = record { step = logon f; journal = j; answer = idRequest }
  hears (logon f) j login =
      if match then record { step = blocks 0 []; journal = j; answer = acceptance } else failure logon f j
  hears (logon f) j (carries b) = failure logon f j
  hears (logon f) j bye = failure logon f j
  hears (blocks f p) j noise = failure (λ n. blocks n p) f j
  hears (blocks f p) j hello = failure (λ n. blocks n p) f j
  hears (blocks f p) j login = failure (λ n. blocks n p) f j
  hears (blocks f p) j (carries b) = takes R j (p ++ b.info) b
  hears (blocks f p) j bye = record { step = closed; journal = j; answer = hangUp }
  hears closed j noise = record { step = closed; journal = j; answer = nothing }
  hears closed j hello = record { step = closed; journal = j; answer = nothing }
  hears closed j login = record { step = closed; journal = j; answer = nothing }
  hears closed j (carries b) = record { step = closed; journal = j; answer = nothing }
  hears closed j bye = record { step = closed; journal = j; answer = nothing }

-- ── The device ──

-- a: how often the string was sent, this time too. sending b bs a: the block b, and then the blocks bs of the same transaction
pub data DevicePhase : Type 0 where
  opening loggingOn closing : ℕ → DevicePhase
  sending : Segment → List Segment → ℕ → DevicePhase
  stopped : DevicePhase

-- left: the transactions with no verdict yet, the one being sent first. told: the verdicts of the others, in the job's order
pub data Device : Type 0 where
  device : DevicePhase → (left : List (List ℕ)) → (told : List Verdict) → Device

-- what a place transmits
abbrev pub transmits : DevicePhase → Option Message
transmits (opening a) = some hello
transmits (loggingOn a) = some login
transmits (sending b bs a) = some (carries b)
transmits (closing a) = some bye
transmits stopped = none

module _ (R : Parameters) where
  open R use {cut}

  -- goes on with the first of the transactions left
  unfoldable pub begin : List (List ℕ) → List Verdict → Device
  begin [] told = device (closing 1) [] told
  begin (t ∷ ts) told = device (sending (cut t).first (cut t).more 1) (t ∷ ts) told

  -- ACK: the next of the blocks, or accepted
  unfoldable pub acked : List Segment → List (List ℕ) → List Verdict → Device
  acked [] left told = begin (tail left) (told ++ Accepted ∷ [])
  acked (b ∷ bs) left told = device (sending b bs 1) left told

module _ (R : Parameters) (L : Limits) where
  open L use {D}

  -- what the device does with an answer, place by place
  unfoldable pub reads : Answer → Device → Device
  reads x (device (opening a) left told) =
      if x is idRequest then device (loggingOn 1) left told
      else if ltb a 3 then device (opening (suc a)) left told
      else device stopped left told
  reads x (device (loggingOn a) left told) =
      if x is acceptance then begin R left told
      else if (x is nak || x is idRequest) && leb a D then device (loggingOn (suc a)) left told
      else device stopped left told
  reads x (device (sending b bs a) left told) =
      if x is ack then acked R bs left told
      else if x is rs then begin R (tail left) (told ++ Rejected ∷ [])
      else if x is nak && leb a D then device (sending b bs (suc a)) left told
      else device stopped (tail left) (told ++ (if x is nak || x is hangUp then Deferred else Unconfirmed) ∷ [])
  reads x (device (closing a) left told) =
      if x is nak && leb a D then device (closing (suc a)) left told
      else device stopped left told
  reads x (device stopped left told) = device stopped left told

-- ── A run ──

-- the device, the central's step and its journal
pub data ModelEnds (J : Type 0) : Type 0 where
  model_ends : Device → CentralPhase → J → ModelEnds J

module _ (R : Parameters) (L : Limits) where
  open R use {J}

  -- the device reads what damage leaves of the central's answer
  unfoldable pub answered : Effect → Device → Response J → ModelEnds J
  answered k d r = model_ends (reads R L (returns k r.answer) d) r.step r.journal

  -- the central hears what damage leaves of a string, if there is one
  unfoldable pub sent : Effects → Device → CentralPhase → J → Option Message → ModelEnds J
  sent m d s j none = model_ends d s j
  sent (effects h k) d s j (some c) = answered k d (hears R L s j (arrives h c))

  -- one transmission and its answer
  unfoldable pub exchange : Effects → ModelEnds J → ModelEnds J
  exchange m (model_ends (device p left told) s j) = sent m (device p left told) s j (transmits p)

  -- so many transmissions
  unfoldable pub run : ℕ → List Effects → ModelEnds J → ModelEnds J
  run zero ms w = w
  run (suc n) ms w = run n (tail ms) (exchange (next ms) w)

-- the start of a run
abbrev pub start : (R : Parameters) → List (List ℕ) → R.J → ModelEnds R.J
start R job j = model_ends (device (opening 1) job []) idle j

-- a run of the job, of so many transmissions
unfoldable pub played : (R : Parameters) → Limits → ℕ → List (List ℕ) → R.J → List Effects → ModelEnds R.J
played R L n job j ms = run R L n ms (start R job j)

-- the device has stopped
abbrev pub halts_at : Device → Bool
halts_at (device (opening a) left told) = false
halts_at (device (loggingOn a) left told) = false
halts_at (device (sending b bs a) left told) = false
halts_at (device (closing a) left told) = false
halts_at (device stopped left told) = true

-- the verdicts of a device: those told, and unsent for the others
abbrev pub told_by : Device → List Verdict
told_by (device p left told) = told ++ replicate (length left) Unsent

-- what a model_ends holds
abbrev pub outcome : {J : Type 0} → ModelEnds J → Result J
outcome (model_ends d s j) = record { verdicts = told_by d; journal = j }
