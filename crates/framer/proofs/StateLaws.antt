-- Laws of the saved state: a state in range is that of the bytes it holds, which can be held; the order of refusals; and the ways to have `Feeds` and `Flushes`.
use mathlib.Core.Bool.{true, false, not, and-eq-true_iff}
use mathlib.Core.List.{List, []}
use Rattle.std.specs.Prelude.{Result, Ok, Err, None, Some}
use mathlib.Core.Path.{◌≡◌, refl, sym, ◌∙◌}
use Prim.Native.Nat.{ℕ, ◌-◌, ◌≤◌, ◌<◌}
use native.Mathlib.Nat.{zero-add}
use native.Mathlib.Omega.{arith}
use borrow.Author.Tests.{lt-ltb, le-ltb, ltb-false, not-false}
use lib.Dec.{eqb, ltb}
use lib.ListN.{length, drop, replicate, length-take, length-drop, take-append-drop}
use lib.Seq.{take_all, take_at, drop_at}
use Rattle.line.specs.Answer.{Outcome, done, refused, refusal_number, overlay, copied, Wrote}
use Rattle.line.specs.Test.{all}
use Rattle.line.specs.declared.answer.Refusal.{Refusal}
use Rattle.line.proofs.AllLaws.{zeros, all-zeros, zeros-drop}
use Rattle.line.proofs.OutcomeLaws.{passed}
use Rattle.line.proofs.OverlayLaws.{overlay-none, overlay-start, wrote-refused}
use Rattle.framer.specs.Framing.{Feeding, unfinished}
use Rattle.framer.specs.Inner.{refusing, later}
use Rattle.framer.specs.State.{blank, state_of, held_in, in_range, tested, Feeds, Flushes}
use Rattle.framer.specs.declared.Framer.{Framer}
use Rattle.framer.specs.declared.Fed.{Fed}
use Rattle.framer.proofs.HeldLaws.{held-long, held-short}

-- ── Zeros ──

-- those of the array behind n bytes
blank-drop : (n : ℕ) → drop n blank ≡ replicate (256 - n) 0
unfolding blank
blank-drop n = zeros-drop n 256

-- ── States in range ──

-- the state that holds what can be held holds it, and is in range
pub state-holds : (h : List ℕ) → held_in (state_of h) ≡ h
state-holds h = overlay-start h blank (length h) refl

pub state_in_range_lem : (h : List ℕ) → unfinished h ≡ true → in_range (state_of h) ≡ true
unfolding in_range overlay
state_in_range_lem h u = rw (take_at h (drop (length h) blank) (length h) refl, u, drop_at h (drop (length h) blank) (length h) refl, blank-drop) (all-zeros (256 - length h))

-- what a state in range holds can be held
pub range-held : (s : Framer) → in_range s ≡ true → unfinished (held_in s) ≡ true
unfolding in_range
range-held s r = ((and-eq-true_iff (unfinished (held_in s)) _).0 r).0

-- a state in range is that of what it holds
module _ (s : Framer) (r : in_range s ≡ true) (sized : length s.held ≡ 256) where
  -- it holds as many bytes as it says, fewer than 256
  pub range_length : (length (held_in s) ≡ s.length) × (s.length < 256)
  range_length =
      let short = held-short (held_in s) (range-held s r) in
      let count = length-take s.length s.held in
      (omega arith, omega arith)

  -- zeros stand behind them
  pub range_array : s.held ≡ overlay (held_in s) blank
  unfolding in_range overlay
  range_array =
      let (count, _) = range_length in
      let rest = drop s.length s.held in
      let none = ((and-eq-true_iff (unfinished (held_in s)) (all (λ b. eqb b 0) rest)).0 r).1 in
      let behind : rest ≡ drop (length (held_in s)) blank = zeros rest none ∙ rw (length-drop, sized, count, blank-drop) in
      sym (take-append-drop s.length s.held) ∙ rw behind

  pub range-state : s ≡ state_of (held_in s)
  range-state = λ i. record { held = range_array i; length = sym range_length.0 i }

-- a state that says 256 or more is not in range
pub long-range : (s : Framer) → 256 ≤ s.length → length s.held ≡ 256 → in_range s ≡ false
unfolding in_range
long-range s long sized = rw (take_all s.length s.held (omega arith), held-long s.held (omega arith))

-- ── The order of refusals ──

module _ {A : Type 0} (s : Framer) (room : ℕ) (x : A) where
  pub tested-range : in_range s ≡ false → tested s room x ≡ refused 9
  unfolding tested
  tested-range r = rw r

  pub tested-room : in_range s ≡ true → room < 256 → tested s room x ≡ refused 1
  unfolding tested
  tested-room r h = rw (r, lt-ltb room 256 h)

  pub tested-done : in_range s ≡ true → 256 ≤ room → tested s room x ≡ done x
  unfolding tested
  tested-done r h = rw (r, le-ltb room 256 h)

  -- what is done has passed both tests
  pub done-tested : (y : A) → tested s room x ≡ done y → (in_range s ≡ true) × (256 ≤ room) × (x ≡ y)
  unfolding tested
  done-tested y e =
      let (ranged, roomy) = passed (not (in_range s)) 9 _ y e in
      let (long, same) = passed (ltb room 256) 1 (done x) y roomy in
      (not-false (in_range s) ranged, ltb-false room 256 long, cc)

-- ── What the functions owe ──

-- a refusal, which leaves all as it is
pub feeds_refused : {o : Outcome Feeding} (s : Framer) (q : Refusal) (m : List ℕ) → o ≡ refused (refusal_number q) → Feeds o s (refusing s q) m m
feeds_refused s q m e = record { answers = rw e; uses = rw e; next = rw e; leaves = rw e (overlay-none m) }

-- none yet
pub feeds_none : {o : Outcome Feeding} (s next : Framer) (used : ℕ) (held m : List ℕ) → o ≡ done (record { string = None; used = used; held = held }) → next ≡ state_of held →
    Feeds o s (record { outcome = Ok None; used = used; state = next }) m m
feeds_none s next used held m e n = record { answers = rw e; uses = rw e; next = n ∙ rw e; leaves = rw e (overlay-none m) }

-- a string
pub feeds_some : {o : Outcome Feeding} (s next : Framer) (n used : ℕ) (x before after : List ℕ) → o ≡ done (record { string = Some x; used = used; held = [] }) → n ≡ length x → next ≡ state_of [] →
    after ≡ overlay x before → Feeds o s (record { outcome = Ok (Some n); used = used; state = next }) before after
feeds_some s next n used x before after e c start l = record { answers = rw (e, c) refl; uses = rw e; next = start ∙ rw e; leaves = l ∙ rw e }

-- what is done is so whatever the state was
pub feeds_done : {o : Outcome Feeding} {f : Feeding} {s : Framer} {r : Fed} {before after : List ℕ} → Feeds (done f) s r before after → (s' : Framer) → o ≡ done f → Feeds o s' r before after
feeds_done w s' e = record { answers = w.answers ∙ rw e; uses = w.uses ∙ rw e; next = w.next ∙ rw e; leaves = w.leaves ∙ rw e }

-- no bytes were used before
pub later-none : (f : Feeding) → later 0 f ≡ f
later-none f = rw zero-add

-- a refusal of the flush
pub flushes_refused : {o : Outcome (List ℕ)} (s : Framer) (q : Refusal) (m : List ℕ) → o ≡ refused (refusal_number q) → Flushes o s (record { outcome = Err q; state = s }) m m
flushes_refused s q m e = record { wrote = wrote-refused q m e; next = rw e }

-- what is held is copied out, and nothing is held behind it
pub flushes_done : {o : Outcome (List ℕ)} (s next : Framer) (r : Result ℕ Refusal) (before after : List ℕ) → o ≡ done (held_in s) → length (held_in s) ≤ length before →
    Wrote (copied (held_in s) (length before)) r before after → next ≡ state_of [] → Flushes o s (record { outcome = r; state = next }) before after
unfolding copied
flushes_done s next r before after e fits w start =
    let copies : copied (held_in s) (length before) ≡ done (held_in s) = rw (le-ltb (length before) (length (held_in s)) fits) in
    record { wrote = rw (e, ← copies) w; next = start ∙ rw e }
