-- A step: which case of its definition the tests leave, and what it owes where it is refused and where it is done.
use mathlib.Core.Bool.{Bool, true, false, not, ◌&&◌, and-eq-true_iff}
use mathlib.Core.List.{List}
use mathlib.Core.Path.{◌≡◌, ap, ◌∙◌}
use Prim.Native.Nat.{ℕ, ◌≤◌, ◌<◌}
use borrow.Author.Tests.{lt-ltb, le-ltb, ltb-false, leb-true, not-false}
use lib.Dec.{leb, ltb}
use lib.ListN.{length}
use Rattle.line.proofs.OutcomeLaws.{then_done, map-done, passed}
use Rattle.line.proofs.OverlayLaws.{overlay-none}
use Rattle.line.specs.Answer.{Outcome, done, refused, outcome_of, Wrote}
use Rattle.line.specs.declared.answer.Refusal.{Refusal}
use Rattle.std.specs.Prelude.{Result}
use Rattle.journal.specs.Storage.{transactions, decode_in, stored_in}
use Rattle.central.specs.Inner.{Readable, transactions_in}
use Rattle.central.specs.Step.{pagers_in_range}
use Rattle.snpp.specs.Command.{recognized}
use Rattle.snpp.specs.Inner.{Does, answer_of, reacts_in, state_of}
use Rattle.snpp.specs.Reaction.{Reaction, answer_text, reacts}
use Rattle.snpp.specs.State.{in_range, session_of}
use Rattle.snpp.specs.Step.{Steps, settings_in_range, tested, stepped}
use Rattle.snpp.specs.declared.reaction.Reacted.{Reacted}
use Rattle.snpp.specs.declared.state.Control.{Control}
use Rattle.snpp.specs.declared.state.Settings.{Settings}
use Rattle.snpp.specs.declared.state.State.{State}

-- the tests of a step on such a state and such memory, for a line of so many bytes
module _ (s : State) (settings : Settings) (pagers buffer : List ℕ) (n size room : ℕ) where
  -- whether settings, pager list and state are in range
  abbrev ranged : Bool
  ranged = settings_in_range settings && pagers_in_range pagers && in_range s

  -- they are not in range
  pub tested-range : ranged ≡ false → tested s settings pagers buffer n size room ≡ refused 9
  unfolding tested
  tested-range r = rw r

  -- they are
  module _ (r : ranged ≡ true) where
    -- the output is short
    pub tested-short : room < 6 → tested s settings pagers buffer n size room ≡ refused 1
    unfolding tested
    tested-short h = rw (r, lt-ltb room 6 h)

    -- it is not
    module _ (h : 6 ≤ room) where
      -- the journal is refused
      pub tested_unread : (k : ℕ) → decode_in buffer n ≡ refused k → tested s settings pagers buffer n size room ≡ refused k
      unfolding tested
      tested_unread k e = rw (r, le-ltb room 6 h, e)

      -- it is read, and the line is too long
      pub tested-long : (ts : List (List ℕ)) → decode_in buffer n ≡ done ts → 2048 < size → tested s settings pagers buffer n size room ≡ refused 2
      unfolding tested
      tested-long ts e l = rw (r, le-ltb room 6 h, e, lt-ltb 2048 size l)

      -- all tests are passed
      pub tested-done : (ts : List (List ℕ)) → decode_in buffer n ≡ done ts → size ≤ 2048 → tested s settings pagers buffer n size room ≡ done ts
      unfolding tested
      tested-done ts e l = rw (r, le-ltb room 6 h, e, le-ltb 2048 size l)

-- what a step has passed
pub record Passes (s : State) (settings : Settings) (pagers buffer : List ℕ) (n size room : ℕ) : Type 0 where
  pub longest : settings.longest ≤ 2000
  pub range : in_range s ≡ true
  pub roomy : 6 ≤ room
  pub short : size ≤ 2048
  pub journal : Readable buffer n
  pub tests : tested s settings pagers buffer n size room ≡ done (transactions_in buffer n)

-- tests that are done were passed
pub tested-passes : (s : State) (settings : Settings) (pagers buffer : List ℕ) (n size room : ℕ) (ts : List (List ℕ)) → tested s settings pagers buffer n size room ≡ done ts →
    Passes s settings pagers buffer n size room × (decode_in buffer n ≡ done ts)
unfolding tested
tested-passes s settings pagers buffer n size room ts e =
    let (inside, r) = passed (not (settings_in_range settings && pagers_in_range pagers && in_range s)) 9 _ _ e in
    let (roomy, q) = passed (ltb room 6) 1 _ _ r in
    let (us, read, p) = then_done (decode_in buffer n) _ ts q in
    let (short, same) = passed (ltb 2048 size) 2 _ _ p in
    let is : us ≡ ts = cc in
    let (setting, state) = (and-eq-true_iff _ (in_range s)).0 (not-false _ inside) in
    let (most, _) = (and-eq-true_iff (settings_in_range settings) (pagers_in_range pagers)).0 setting in (
      record {
        longest = leb-true settings.longest 2000 ((and-eq-true_iff (leb 3 settings.longest) (leb settings.longest 2000)).0 most).1;
        range = state;
        roomy = ltb-false room 6 roomy;
        short = ltb-false 2048 size short;
        journal = rw read;
        tests = e ∙ rw (read, is);
      },
      read ∙ ap done is,
    )

-- a step that is done has passed them, and is what the session does
pub stepped-passes : (s : State) (settings : Settings) (pagers buffer : List ℕ) (n : ℕ) (line : List ℕ) (room : ℕ) (x : Reaction (List (List ℕ))) → stepped s settings pagers buffer n line room ≡ done x →
    Passes s settings pagers buffer n (length line) room × (reacts settings.longest pagers transactions (session_of s) (transactions_in buffer n) (recognized line) ≡ x)
unfolding stepped
stepped-passes s settings pagers buffer n line room x e =
    let (ts, made, is) = map-done _ (tested s settings pagers buffer n (length line) room) x e in
    let (p, read) = tested-passes s settings pagers buffer n (length line) room ts made in
    (p, rw read is)

-- a step that is refused
pub stepped-refused : (s : State) (settings : Settings) (pagers buffer : List ℕ) (n : ℕ) (line : List ℕ) (room k : ℕ) → tested s settings pagers buffer n (length line) room ≡ refused k →
    stepped s settings pagers buffer n line room ≡ refused k
unfolding stepped
stepped-refused s settings pagers buffer n line room k e = rw e

-- a step in which the session reacts
pub stepped-done : (k : Control) (settings : Settings) (pagers array buffer : List ℕ) (n : ℕ) (line : List ℕ) (room : ℕ) →
    tested (state_of k array) settings pagers buffer n (length line) room ≡ done (transactions_in buffer n) →
    stepped (state_of k array) settings pagers buffer n line room ≡ done (reacts_in settings pagers k array buffer n (recognized line))
unfolding stepped
stepped-done k settings pagers array buffer n line room e = rw e

-- a refusal leaves the state and all memory
pub steps-refused : {o : Outcome (Reaction (List (List ℕ)))} (k : ℕ) (s : State) (n : ℕ) (w : Result ℕ Refusal) (buffer out : List ℕ) → o ≡ refused k → outcome_of w ≡ refused k →
    Steps o s n (record { outcome = w; state = s; journal = n }) buffer buffer out out
unfolding stored_in
steps-refused k s n w buffer out e a = record { answers = rw e a; state = rw e; counts = rw e; stored = rw e; leaves = rw e (overlay-none out) }

-- a step that is done: the reaction is stored, and its answer written
pub steps-done : {o : Outcome (Reaction (List (List ℕ)))} {x : Reaction (List (List ℕ))} {s : State} {n : ℕ} {r : Reacted} {w : Result ℕ Refusal} {array' buffer buffer' out out' : List ℕ} → o ≡ done x →
    Does x r array' buffer buffer' → Wrote (done (answer_text (answer_of r.answer))) w out out' →
    Steps o s n (record { outcome = w; state = state_of r.control array'; journal = r.journal }) buffer buffer' out out'
steps-done e d w =
    record {
      answers = rw (e, ← d.answers) w.answers;
      state = rw e d.state;
      counts = rw e d.counts;
      stored = rw e d.stored;
      leaves = rw (e, ← d.answers) w.leaves;
    }
