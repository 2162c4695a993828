-- A step: which case of its definition the tests leave, and what it owes where it is refused and where it is done.
use mathlib.Core.Bool.{Bool, true, false, not, ◌&&◌}
use mathlib.Core.List.{List}
use mathlib.Core.Path.{◌≡◌, sym, ◌∙◌}
use Prim.Native.Nat.{ℕ, ◌≤◌, ◌<◌}
use borrow.Author.Tests.{lt-ltb, le-ltb, ltb-false, not-false, eq-eqb, ne_eqb}
use lib.Dec.{ltb}
use lib.ListN.{length}
use Rattle.line.proofs.OutcomeLaws.{map-done, passed}
use Rattle.line.proofs.OverlayLaws.{overlay-none}
use Rattle.line.specs.Answer.{Outcome, done, refused, map_done, outcome_of, Wrote}
use Rattle.line.specs.declared.answer.Refusal.{Refusal}
use Rattle.std.specs.Prelude.{Result}
use Rattle.journal.specs.Storage.{decode_in, stored_in}
use Rattle.central.specs.Hearing.{heard}
use Rattle.central.specs.Inner.{Readable, Stores, answer_of, reacts_in, transactions_in}
use Rattle.central.specs.Lent.{state_of, stepped_in}
use Rattle.central.specs.Reaction.{Reaction, answer_bytes}
use Rattle.central.specs.Step.{Steps, pagers_in_range, settings_in_range, state_in_range, tested, stepped}
use Rattle.central.specs.declared.reaction.Reacted.{Reacted}
use Rattle.central.specs.declared.state.Control.{Control}
use Rattle.central.specs.declared.state.Settings.{Settings}
use Rattle.central.specs.declared.state.State.{State}

-- the tests of a step on such a state and such memory
module _ (s : State) (settings : Settings) (pagers buffer : List ℕ) (room : ℕ) where
  -- whether settings, pager list and state are in range
  abbrev ranged : Bool
  ranged = settings_in_range settings && pagers_in_range pagers && state_in_range settings s

  -- they are not in range
  pub tested-range : ranged ≡ false → tested s settings pagers buffer room ≡ refused 9
  unfolding tested
  tested-range r = rw r

  -- the output is short
  pub tested-short : ranged ≡ true → room < 7 → tested s settings pagers buffer room ≡ refused 1
  unfolding tested
  tested-short r h = rw (r, lt-ltb room 7 h)

  -- the journal decides
  pub tested-journal : ranged ≡ true → 7 ≤ room → tested s settings pagers buffer room ≡ decode_in buffer s.journal
  unfolding tested
  tested-journal r h = rw (r, le-ltb room 7 h)

-- what a step has passed: settings, pager list and state are in range, the output is large enough, and the journal is read
pub record Passes (s : State) (settings : Settings) (pagers buffer : List ℕ) (room : ℕ) : Type 0 where
  pub range : settings_in_range settings && pagers_in_range pagers && state_in_range settings s ≡ true
  pub roomy : 7 ≤ room
  pub journal : Readable buffer s.journal
  pub tests : tested s settings pagers buffer room ≡ done (transactions_in buffer s.journal)

-- what was counted passed
pub tested-passes : (s : State) (settings : Settings) (pagers buffer : List ℕ) (room n : ℕ) → map_done length (tested s settings pagers buffer room) ≡ done n →
    Passes s settings pagers buffer room
unfolding tested
tested-passes s settings pagers buffer room n e =
    let (ts, made, _) = map-done length _ n e in
    let (out, r) = passed (not (settings_in_range settings && pagers_in_range pagers && state_in_range settings s)) 9 _ _ made in
    let (short, read) = passed (ltb room 7) 1 _ _ r in
    let same : decode_in buffer s.journal ≡ done (transactions_in buffer s.journal) = rw read in
    record { range = not-false _ out; roomy = ltb-false room 7 short; journal = same; tests = made ∙ sym read ∙ same }

-- a step that is refused
pub stepped-refused : (s : State) (settings : Settings) (pagers buffer string : List ℕ) (room n : ℕ) → tested s settings pagers buffer room ≡ refused n →
    stepped s settings pagers buffer string room ≡ refused n
unfolding stepped
stepped-refused s settings pagers buffer string room n e = rw e

-- a step in which the central reacts
pub stepped-done : (k : Control) (settings : Settings) (pagers array buffer string : List ℕ) (room : ℕ) →
    tested (state_of k array) settings pagers buffer room ≡ done (transactions_in buffer k.journal) →
    stepped (state_of k array) settings pagers buffer string room ≡ done (reacts_in settings pagers k array buffer k.stage (heard k.stage string))
unfolding stepped
stepped-done k settings pagers array buffer string room e = rw e

-- a step over lent memory, of its size and of another
module _ (k : Control) (settings : Settings) (pagers array buffer string : List ℕ) (room : ℕ) where
  -- is the step of the state
  pub stepped-sized : length array ≡ 2000 → stepped_in k array settings pagers buffer string room ≡ stepped (state_of k array) settings pagers buffer string room
  unfolding stepped_in
  stepped-sized h = rw (eq-eqb _ 2000 h)

  -- is refused
  pub stepped-other : (length array ≡ 2000 → ⊥) → stepped_in k array settings pagers buffer string room ≡ refused 9
  unfolding stepped_in
  stepped-other h = rw (ne_eqb _ 2000 h)

-- a refusal leaves the state and all memory
pub steps-refused : {o : Outcome (Reaction (List (List ℕ)))} (n : ℕ) (s : State) (w : Result ℕ Refusal) (buffer out : List ℕ) → o ≡ refused n → outcome_of w ≡ refused n →
    Steps o s (record { outcome = w; state = s }) buffer buffer out out
unfolding stored_in
steps-refused n s w buffer out e a = record { answers = rw e a; state = rw e; stored = rw e; leaves = rw e (overlay-none out) }

-- a step that is done: the reaction is stored, and its answer written
pub steps-done : {o : Outcome (Reaction (List (List ℕ)))} {x : Reaction (List (List ℕ))} {s : State} {r : Reacted} {w : Result ℕ Refusal} {array' buffer buffer' out out' : List ℕ} → o ≡ done x →
    Stores x r s.pending array' buffer buffer' → Wrote (done (answer_bytes (answer_of r.answer))) w out out' →
    Steps o s (record { outcome = w; state = state_of r.control array' }) buffer buffer' out out'
steps-done e d w =
    record {
      answers = rw (e, ← d.answers) w.answers;
      state = rw (e, d.control, d.pending);
      stored = rw e d.stored;
      leaves = rw (e, ← d.answers) w.leaves;
    }
