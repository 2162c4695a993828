-- One walk over a journal finds where its records lie: the extents of those met so far begin where the walk stands, and a transaction lies at each.
use Rattle.std.specs.Prelude.{Option, None, Some, if◌then◌else◌}
use mathlib.Core.Bool.{Bool, true, false}
use mathlib.Core.List.{List, [], ◌∷◌, ◌++◌, append-nil, append_assoc, reverse, reverse-cons, reverse-reverse}
use mathlib.Core.Path.{◌≡◌, refl, sym, ap, ◌∙◌}
use Prim.Native.Nat.{ℕ, zero, suc, ◌+◌, ◌-◌, ◌≤◌, ◌<◌}
use native.Mathlib.Omega.{arith}
use borrow.Author.Tests.{ltb-true, ltb-false, lt-ltb, le-ltb}
use lib.Dec.{ltb}
use lib.ListN.{length, drop, get_or, length-drop}
use lib.Seq.{length-take-le}
use Rattle.line.specs.Answer.{Outcome, done, refused, map_done, and_then}
use Rattle.line.proofs.OutcomeLaws.{then_done, map-done}
use Rattle.journal.specs.Cursor.{transaction_at, walk_from, hand_on}
use Rattle.journal.specs.Survey.{nowhere, extents_from, extent_at, survey_of, Lies}
use Rattle.journal.specs.Walk.{trailer, newest_first, decode, step_from}
use Rattle.journal.specs.declared.cursor.Place.{Place}
use Rattle.journal.specs.declared.cursor.Position.{Position}
use Rattle.journal.specs.declared.record.Extent.{Extent}
use Rattle.journal.proofs.CursorLaws.{Stepped, walk_from_lem, step-place, step-ends}
use Rattle.journal.proofs.EncodingLaws.{trailer-inside}

-- the extent of a place
abbrev pub extent_of : Place → Extent
extent_of q = record { start = q.start; length = q.length }

-- what is noted of the record k once the record i is met: before that nothing, and the extents from the record `left` on are known
abbrev pub noted : ℕ → List Extent → ℕ → ℕ → Extent
noted left es i k = if ltb i left then nowhere else get_or es (k - left) nowhere

-- the record i is met
noted_here : (left : ℕ) (e : Extent) (es : List Extent) (i : ℕ) → left ≡ i → (e ≡ noted left (e ∷ es) i i) × (get_or es 0 nowhere ≡ noted left (e ∷ es) i (i + 1))
noted_here left e es i h =
    let none : i - i ≡ 0 = omega arith in
    let one : i + 1 - i ≡ 1 = omega arith in
    rw (h, le-ltb i i (omega arith), none, one) (refl, refl)

-- another is met
noted_other : (left : ℕ) (e : Extent) (es : List Extent) (i k more : ℕ) → (left ≡ i → ⊥) → i ≤ k → more ≡ left + 1 → noted more es i k ≡ noted left (e ∷ es) i k
noted_other left e es i k more h l m = go (ltb i left) refl
  where
    go : (b : Bool) → ltb i left ≡ b → noted more es i k ≡ (if b then nowhere else get_or (e ∷ es) (k - left) nowhere)
    go true t =
        let before : i < left = ltb-true i left t in
        rw (lt-ltb i more (omega arith))
    go false t =
        let behind : left ≤ i = ltb-false i left t in
        let place : k - left ≡ suc (k - more) = omega arith in
        rw (le-ltb i more (omega arith), place)

-- a step's transaction is as long as its place says
pub place-length : (b : List ℕ) (p : Position) (q : Place) → Stepped b p q → length (transaction_at b q) ≡ q.length
place-length b p q s = length-take-le q.length (drop q.start b) (rw length-drop (omega (arith, s.inside, s.back)))

-- the extents with that of a step's place
extents_step : (b : List ℕ) (p : Position) (q : Place) (later : List (List ℕ)) → Stepped b p q →
    extents_from q.next.end (transaction_at b q ∷ later) ≡ extent_of q ∷ extents_from p.end later
unfolding extents_from
extents_step b p q later s =
    let behind : q.start + (q.length + 2) ≡ p.end = omega (arith, s.back) in
    rw (place-length b p q s, s.next, behind)

-- a walk from p that has come to a position: the transactions met so far, oldest first, and what is noted of them
pub record Noted (b : List ℕ) (i : ℕ) (p at : Position) (last here next : Extent) : Type 0 where
  pub inside : at.end ≤ length b
  pub later : List (List ℕ)
  pub met : walk_from b p ≡ map_done (λ rs. reverse later ++ rs) (walk_from b at)
  pub counted : at.left + length later ≡ p.left
  pub latest : last ≡ get_or (extents_from at.end later) 0 nowhere
  pub found : here ≡ noted at.left (extents_from at.end later) i i
  pub behind : next ≡ noted at.left (extents_from at.end later) i (i + 1)

-- it begins
pub noted-none : (b : List ℕ) (i : ℕ) (p : Position) → p.end ≤ length b → Noted b i p p nowhere nowhere nowhere
unfolding extents_from
noted-none b i p h = record { inside = h; later = []; met = same (walk_from b p); counted = omega arith; latest = refl; found = go (ltb i p.left); behind = go (ltb i p.left) }
  where
    same : (o : Outcome (List (List ℕ))) → o ≡ map_done (λ rs. reverse [] ++ rs) o
    same (done rs) = refl
    same (refused k) = refl

    go : (t : Bool) → nowhere ≡ (if t then nowhere else nowhere)
    go true = refl
    go false = refl

-- a walk on its way
module _ (b : List ℕ) (i : ℕ) (p at : Position) (last here next : Extent) (n : Noted b i p at last here next) where
  -- a step
  module _ (q : Place) (e : step_from b at ≡ done (Some q)) where
    -- the walk goes on from there
    met-more : walk_from b p ≡ map_done (λ rs. reverse (transaction_at b q ∷ n.later) ++ rs) (walk_from b q.next)
    met-more = n.met ∙ rw (walk_from_lem b at n.inside, e) (go (walk_from b q.next))
      where
        go : (w : Outcome (List (List ℕ))) →
            map_done (λ rs. reverse n.later ++ rs) (map_done (λ ts. transaction_at b q ∷ ts) w) ≡ map_done (λ rs. reverse (transaction_at b q ∷ n.later) ++ rs) w
        go (done rs) = rw (reverse-cons (transaction_at b q) n.later, append_assoc)
        go (refused k) = refl

    -- the record that is asked for is met
    pub noted-found : q.next.left ≡ i → Noted b i p q.next (extent_of q) (extent_of q) last
    noted-found h =
        let s = step-place b at q e in
        let es = extents_step b at q n.later s in
        let (found, behind) = noted_here q.next.left (extent_of q) (extents_from at.end n.later) i h in
        record {
          inside = omega (arith, s.inside, s.back, s.next);
          later = transaction_at b q ∷ n.later;
          met = met-more;
          counted = omega (arith, n.counted, s.left);
          latest = rw es;
          found = rw es found;
          behind = rw es (n.latest ∙ behind);
        }

    -- another is met
    pub noted-next : (q.next.left ≡ i → ⊥) → Noted b i p q.next (extent_of q) here next
    noted-next h =
        let s = step-place b at q e in
        let es = extents_step b at q n.later s in
        let other = noted_other q.next.left (extent_of q) (extents_from at.end n.later) i in
        record {
          inside = omega (arith, s.inside, s.back, s.next);
          later = transaction_at b q ∷ n.later;
          met = met-more;
          counted = omega (arith, n.counted, s.left);
          latest = rw es;
          found = rw es (n.found ∙ other i at.left h (omega arith) s.left);
          behind = rw es (n.behind ∙ other (i + 1) at.left h (omega arith) s.left);
        }

  -- all are met
  pub noted-all : step_from b at ≡ done None → done (record { count = p.left; here = here; next = next }) ≡ map_done (λ rs. survey_of i (reverse rs)) (walk_from b p)
  noted-all e =
      let (left, end) = step-ends b at e in
      let turned : reverse (reverse n.later ++ []) ≡ n.later = ap reverse (append-nil (reverse n.later)) ∙ reverse-reverse n.later in
      let count : p.left ≡ length n.later = omega (arith, n.counted) in
      let at-start : (k : ℕ) → k - 0 ≡ k = λ k. omega arith in
      let found : here ≡ extent_at n.later i = n.found ∙ rw (left, end, le-ltb i 0 (omega arith), at-start i) in
      let behind : next ≡ extent_at n.later (i + 1) = n.behind ∙ rw (left, end, le-ltb i 0 (omega arith), at-start (i + 1)) in
      sym (rw (n.met, walk_from_lem b at n.inside, e, turned, ← count, ← found, ← behind))

  -- the bytes are not well formed
  pub noted-refused : (k : ℕ) → step_from b at ≡ refused k → refused k ≡ map_done (λ rs. survey_of i (reverse rs)) (walk_from b p)
  noted-refused k e = sym (rw (n.met, walk_from_lem b at n.inside, e))

-- what is made of the records oldest first, over those newest first
turned : {A : Type 0} (f : List (List ℕ) → A) (o : Outcome (List (List ℕ))) → map_done (λ rs. f (reverse rs)) o ≡ map_done f (map_done reverse o)
turned f (done rs) = refl
turned f (refused k) = refl

-- a journal that is opened: the walk from its trailer surveys it
pub opened_survey : (b : List ℕ) (i : ℕ) (p : Position) → trailer b ≡ done p → map_done (λ rs. survey_of i (reverse rs)) (walk_from b p) ≡ map_done (survey_of i) (decode b)
opened_survey b i p e = turned (survey_of i) (walk_from b p) ∙ rw e

-- a journal that is not opened
pub unopened_survey : (b : List ℕ) (i k : ℕ) → trailer b ≡ refused k → refused k ≡ map_done (survey_of i) (decode b)
unopened_survey b i k e = rw e

-- ── A transaction lies at each extent ──

-- transactions lie in the bytes from a place on, each where its extent says
data LieFrom (b : List ℕ) : ℕ → List (List ℕ) → Type 0 where
  end : {at : ℕ} → LieFrom b at []
  next : {at : ℕ} {t : List ℕ} {ts : List (List ℕ)} → Lies b (record { start = at; length = length t }) t → LieFrom b (at + (length t + 2)) ts → LieFrom b at (t ∷ ts)

-- so each does
lie_at : {b : List ℕ} {at : ℕ} {ts : List (List ℕ)} → LieFrom b at ts → (i : ℕ) → Lies b (get_or (extents_from at ts) i nowhere) (get_or ts i [])
unfolding extents_from
lie_at end i = record { inside = omega arith; holds = refl }
lie_at (next h r) zero = h
lie_at (next h r) (suc i) = lie_at r i

-- one step more
lies-step : (b : List ℕ) (p : Position) (q : Place) (later : List (List ℕ)) → Stepped b p q → LieFrom b p.end later → LieFrom b q.next.end (transaction_at b q ∷ later)
lies-step b p q later s lie =
    let size = place-length b p q s in
    let behind : q.next.end + (length (transaction_at b q) + 2) ≡ p.end = omega (arith, s.back, s.next) in
    let here : Lies b (record { start = q.next.end; length = length (transaction_at b q) }) (transaction_at b q) =
    record { inside = omega (arith, s.inside, s.back, s.next); holds = rw (size, s.next) } in
    next {ts = later} here (rw behind lie)

-- a walk that is well formed meets transactions that lie before those met so far, where it does behind its first step
walk_lie : (b : List ℕ) (p : Position) (later rs : List (List ℕ)) → p.end ≤ length b → LieFrom b p.end later → walk_from b p ≡ done rs →
    ((q : Place) (us : List (List ℕ)) → Stepped b p q → walk_from b q.next ≡ done us → LieFrom b 0 (reverse us ++ (transaction_at b q ∷ later))) → LieFrom b 0 (reverse rs ++ later)
walk_lie b p later rs h lie w rest = go (step_from b p) refl (sym (walk_from_lem b p h) ∙ w)
  where
    go : (o : Outcome (Option Place)) → step_from b p ≡ o → and_then o (hand_on b (walk_from b)) ≡ done rs → LieFrom b 0 (reverse rs ++ later)
    go (refused n) e w = let z : ◌≡◌ {A = ℕ} 0 1 = cc in absurd (omega arith)
    go (done None) e w =
        let empty : rs ≡ [] = cc in
        rw (empty, ← (step-ends b p e).1) lie
    go (done (Some q)) e w =
        let (us, walk, same) = map-done _ (walk_from b q.next) rs w in
        rw (← same, reverse-cons, append_assoc) (rest q us (step-place b p q e) walk)

-- so of the whole of it
walk-lies : (k : ℕ) (b : List ℕ) (p : Position) (later rs : List (List ℕ)) → p.left ≡ k → p.end ≤ length b → LieFrom b p.end later → walk_from b p ≡ done rs → LieFrom b 0 (reverse rs ++ later)
walk-lies zero b p later rs l h lie w = walk_lie b p later rs h lie w λ q us s r. absurd (omega (arith, s.left))
walk-lies (suc k) b p later rs l h lie w =
    walk_lie b p later rs h lie w λ q us s r.
    walk-lies k b q.next (transaction_at b q ∷ later) us (omega (arith, s.left)) (omega (arith, s.inside, s.back, s.next)) (lies-step b p q later s lie) r

-- each transaction that is decoded lies in the bytes, where its extent says; where there is none, nothing does
pub lies_at : (b : List ℕ) (ts : List (List ℕ)) → decode b ≡ done ts → (i : ℕ) → Lies b (extent_at ts i) (get_or ts i [])
lies_at b ts h =
    let (rs, newest, same) = map-done reverse (newest_first b) ts h in
    let (p, opened, walk) = then_done (trailer b) _ rs newest in
    let all : reverse rs ++ [] ≡ ts = append-nil (reverse rs) ∙ same in
    lie_at (rw all at (walk-lies p.left b p [] rs refl (trailer-inside b p opened) end walk))
