-- Laws of the saved state: a state in range is that of the session it is, and its parts by themselves.
use Rattle.std.specs.Prelude.{if◌then◌else◌, None, Some}
use mathlib.Core.Bool.{Bool, true, false, false≢true, and-eq-true_iff}
use mathlib.Core.List.{List, []}
use Rattle.std.specs.Option.{unwrap_or}
use mathlib.Core.Path.{◌≡◌, refl, sym, ◌∙◌}
use Prim.Native.Nat.{ℕ, ◌-◌, ◌≤◌}
use borrow.Author.Tests.{eqb-true, leb-true}
use lib.Dec.{eqb, leb}
use lib.ListN.{length, take, drop, replicate, length-drop, take-append-drop}
use lib.Seq.{length-take-le}
use Rattle.line.proofs.AllLaws.{zeros, zeros-drop}
use Rattle.line.specs.Answer.{overlay}
use Rattle.line.specs.Character.{printable, digit}
use Rattle.line.specs.Test.{all}
use Rattle.admission.specs.Content.{is_pager_id}
use Rattle.snpp.specs.Reaction.{ongoing, closed}
use Rattle.snpp.specs.State.{no_digits, no_text, stage_of, saved_at, saved, pager_in, text_in, message_at, entry_in, is_closed, session_of, holds, fits, in_range}
use Rattle.snpp.specs.declared.state.Stage.{Stage}
use Rattle.snpp.specs.declared.state.Stage.TheVariants.{Open, Entered, Closed}
use Rattle.snpp.specs.declared.state.State.{State}

-- ── Texts in arrays ──

-- what an array that holds a text says of it
pub record Held (kind : ℕ → Bool) (array : List ℕ) (n : ℕ) : Type 0 where
  pub within : n ≤ length array
  pub text : all kind (take n array) ≡ true
  pub blank : all (λ b. eqb b 0) (drop n array) ≡ true

-- what passes the test
pub held : (kind : ℕ → Bool) (array : List ℕ) (n : ℕ) → holds kind array n ≡ true → Held kind array n
held kind array n h =
    let (few, blank) = (and-eq-true_iff _ (all (λ b. eqb b 0) (drop n array))).0 h in
    let (within, text) = (and-eq-true_iff (leb n (length array)) (all kind (take n array))).0 few in
    record { within = leb-true n (length array) within; text = text; blank = blank }

-- an array is its text laid over zeros
held-own : (kind : ℕ → Bool) (array : List ℕ) (n k : ℕ) → Held kind array n → length array ≡ k → array ≡ overlay (take n array) (replicate k 0)
unfolding overlay
held-own kind array n k h e =
    let rest : drop n array ≡ replicate (k - n) 0 = zeros (drop n array) h.blank ∙ rw (length-drop n array, e) in
    sym (rw (length-take-le n array h.within, zeros-drop n k, ← rest) (take-append-drop n array))

-- the array of a pager ID has eight bytes
pub eight_digits : length no_digits ≡ 8
unfolding no_digits
eight_digits = refl

-- a pager ID fits in it
pub pager-short : (text : List ℕ) → is_pager_id text ≡ true → length text ≤ length no_digits
unfolding no_digits
pager-short text h =
    let (few, _) = (and-eq-true_iff _ (all digit text)).0 h in
    leb-true (length text) 8 ((and-eq-true_iff (leb 1 (length text)) (leb (length text) 8)).0 few).1

-- ── A state in range ──

-- what the test of a state says of it
pub record Ranged (s : State) : Type 0 where
  pub pager : Held digit s.pager s.digits
  pub message : Held printable s.message s.length
  pub lengths : fits s.stage s.digits s.length ≡ true

-- what passes it
pub ranged : (s : State) → in_range s ≡ true → Ranged s
unfolding in_range
ranged s h =
    let (texts, lengths) = (and-eq-true_iff _ (fits s.stage s.digits s.length)).0 h in
    let (pager, message) = (and-eq-true_iff (holds digit s.pager s.digits) (holds printable s.message s.length)).0 texts in
    record { pager = held digit _ _ pager; message = held printable _ _ message; lengths = lengths }

-- a state in range whose arrays have their sizes
module _ (s : State) (r : Ranged s) (eight : length s.pager ≡ 8) (long : length s.message ≡ 2043) where
  -- it is saved as what it holds
  saved-own : saved_at s.stage (take s.digits s.pager) (text_in s) ≡ s
  unfolding no_digits no_text
  saved-own =
      let pager = sym (held-own digit s.pager s.digits 8 r.pager eight) in
      let digits = length-take-le s.digits s.pager r.pager.within in
      let message = sym (held-own printable s.message s.length 2043 r.message long) in
      let count = length-take-le s.length s.message r.message.within in
      λ i. record { stage = s.stage; pager = pager i; digits = digits i; message = message i; length = count i }

  -- the pager ID, where it is none too
  pager-text : unwrap_or (pager_in s) [] ≡ take s.digits s.pager
  pager-text = go (eqb s.digits 0) refl
    where
      go : (b : Bool) → eqb s.digits 0 ≡ b → unwrap_or (if b then None else Some (take s.digits s.pager)) [] ≡ take s.digits s.pager
      go true e = rw (eqb-true s.digits 0 e)
      go false e = refl

  -- the stage and the message of a session that goes on
  message-text : (stage : Stage) → is_closed stage ≡ false → fits stage s.digits s.length ≡ true →
      (stage_of (message_at stage (text_in s)) ≡ stage) × (unwrap_or (message_at stage (text_in s)) [] ≡ text_in s)
  message-text Open o f = (refl, rw (eqb-true s.length 0 f))
  message-text Entered o f = (refl, refl)
  message-text Closed o f = absurd (false≢true (sym o))

  -- a session that goes on is saved as the state
  pub range-saved : is_closed s.stage ≡ false → saved (ongoing (entry_in s)) ≡ s
  range-saved o =
      let (stage, text) = message-text s.stage o r.lengths in
      rw (stage, text, pager-text) saved-own

  -- one that is over too
  pub range-closed : is_closed s.stage ≡ true → saved closed ≡ s
  range-closed c = go s.stage refl c
    where
      go : (stage : Stage) → s.stage ≡ stage → is_closed stage ≡ true → saved closed ≡ s
      go Open e f = absurd (false≢true f)
      go Entered e f = absurd (false≢true f)
      go Closed e f =
          let (first, second) = (and-eq-true_iff (eqb s.digits 0) (eqb s.length 0)).0 (rw e at r.lengths) in
          let same : saved_at s.stage (take s.digits s.pager) (text_in s) ≡ saved closed = rw (e, eqb-true s.digits 0 first, eqb-true s.length 0 second) in
          sym same ∙ saved-own

  -- either is
  pub saved_session : saved (session_of s) ≡ s
  saved_session = go (is_closed s.stage) refl
    where
      go : (b : Bool) → is_closed s.stage ≡ b → saved (if b then closed else ongoing (entry_in s)) ≡ s
      go true e = range-closed e
      go false e = range-saved e
