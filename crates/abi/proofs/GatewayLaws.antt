-- The round trip of the gateway's record, and what its step owes in numbers.
use mathlib.Core.Bool.{false}
use mathlib.Core.List.{List}
use mathlib.Core.Path.{◌≡◌, refl}
use Prim.Native.Nat.{ℕ, zero, suc, ◌≤◌}
use native.Mathlib.Omega.{arith}
use borrow.Author.Tests.{ltb-false}
use lib.Dec.{ltb}
use lib.ListN.{length}
use Rattle.line.proofs.OverlayLaws.{overlay-none}
use Rattle.line.specs.Answer.{Outcome, done, refused, map_done, outcome_of}
use Rattle.journal.specs.Storage.{stored_in}
use Rattle.snpp.specs.Reaction.{answer_text}
use Rattle.snpp.specs.Step.{Steps, state_behind, length_behind}
use Rattle.snpp.specs.declared.state.Stage.{Stage}
use Rattle.snpp.specs.declared.state.Stage.TheVariants.{Open, Entered, Closed}
use Rattle.snpp.specs.declared.state.State.{State}
use Rattle.snpp.specs.declared.state.Stepped.{Stepped}
use Rattle.abi.specs.Answer.{answer_of}
use Rattle.abi.specs.Gateways.{stage_number, stage_of, record_of, state_of, Reacted, packed, gateway_answer, GatewaySteps}
use Rattle.abi.specs.declared.answer.Answer.{Answer}
use Rattle.abi.specs.declared.gateways.GatewayState.{GatewayState}

-- the stage of its number
stage-back : (stage : Stage) → stage_of (stage_number stage) ≡ stage
stage-back Open = refl
stage-back Entered = refl
stage-back Closed = refl

-- the number of its stage
number-back : (n : ℕ) → n ≤ 2 → stage_number (stage_of n) ≡ n
number-back zero h = refl
number-back (suc zero) h = refl
number-back (suc (suc zero)) h = refl
number-back (suc (suc (suc n))) h = absurd (omega arith)

-- the state out of its record
pub gateway_back : (t : State) → state_of (record_of t) ≡ t
gateway_back t = rw (stage-back t.stage) refl

-- and the record of the state that it is
pub record_back : (s : GatewayState) → ltb 2 s.stage ≡ false → record_of (state_of s) ≡ s
record_back s h = rw (number-back s.stage (ltb-false 2 s.stage h)) refl

-- a step that is done gives its own record and length, one that is refused leaves the caller's
gateway_packed : (s : GatewayState) (n : ℕ) (o : Outcome Reacted) → ltb 2 s.stage ≡ false →
    packed (map_done (λ x. length (answer_text x.answer)) o) (record_of (state_behind (state_of s) o)) (length_behind n o) ≡ gateway_answer s n o
gateway_packed s n (done x) stage = refl
gateway_packed s n (refused k) stage = rw (record_back s stage) refl

-- so what a step owes is owed to a C caller, whose record is made field by field
pub gateway_steps : (o : Outcome Reacted) {s : GatewayState} {n number : ℕ} {t : Stepped} {a : Answer} {buffer buffer' out out' : List ℕ} → ltb 2 s.stage ≡ false →
    Steps o (state_of s) n t buffer buffer' out out' → a ≡ answer_of (outcome_of t.outcome) → number ≡ stage_number t.state.stage →
    GatewaySteps o s n
    (record {
      answer = a;
      state = record { stage = number; pager = t.state.pager; digits = t.state.digits; message = t.state.message; length = t.state.length };
      journal = t.journal;
    })
    buffer buffer' out out'
gateway_steps o {s} {n} stage k answered numbered =
    record { answers = rw (answered, numbered, k.answers, k.state, k.counts) (gateway_packed s n o stage); stored = k.stored; leaves = k.leaves }

-- and a refusal leaves all
pub gateway_refused : {k n : ℕ} {s : GatewayState} {a : Answer} (buffer out : List ℕ) → a ≡ answer_of (refused k) →
    GatewaySteps (refused k) s n (record { answer = a; state = s; journal = n }) buffer buffer out out
unfolding stored_in
gateway_refused buffer out answered = record { answers = rw answered refl; stored = refl; leaves = overlay-none out }
