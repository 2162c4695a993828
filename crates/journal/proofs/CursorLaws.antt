-- Reading through the cursor hands out what the walk back gives, whatever the bytes are: a step takes one transaction off the walk.
use Rattle.std.specs.Prelude.{Option, None, Some, if◌then◌else◌}
use mathlib.Core.Bool.{Bool, true, false}
use mathlib.Core.List.{List, [], ◌∷◌, ◌++◌, append_assoc}
use mathlib.Core.Path.{◌≡◌, refl, sym, ap, ◌∙◌}
use Prim.Native.Nat.{ℕ, zero, suc, ◌+◌, ◌-◌, ◌≤◌, ◌<◌}
use native.Mathlib.Numerals.{add-one}
use native.Mathlib.Omega.{arith}
use borrow.Author.Tests.{ltb-false, le-ltb, eqb-true}
use lib.Dec.{ltb, eqb, eqb-suc-zero}
use lib.ListN.{length, get_or, take, drop, length-append, length-drop, take-append-drop}
use lib.Seq.{length-take-le, take_at, drop_at}
use Rattle.line.specs.Answer.{Outcome, done, refused, map_done, and_then}
use Rattle.line.specs.Transaction.{legal}
use Rattle.journal.specs.declared.cursor.Place.{Place}
use Rattle.journal.specs.declared.cursor.Position.{Position}
use Rattle.journal.specs.Cursor.{transaction_at, walk_from, hand_on, handed_out}
use Rattle.journal.specs.Walk.{Met, last_number, step_back, walk_back, trailer, newest_first, place_of, step_from, step_past, cursor_at}
use Rattle.journal.proofs.EncodingLaws.{trailer-parts, trailer-inside}
use Rattle.line.proofs.OutcomeLaws.{then_done, map-done, passed, met}
use Rattle.journal.proofs.RecordLaws.{step-parts, step-split}

-- what one step back from within the bytes meets: the bytes before it, its transaction at its place, and two bytes more
met_at : (b : List ℕ) (e left : ℕ) (m : Met) → e ≤ length b → step_back (take e b) ≡ done m →
    (take (length m.before) b ≡ m.before) × (transaction_at b (place_of left m) ≡ m.transaction) × (length m.before + length m.transaction + 2 ≡ e) × (legal m.transaction ≡ true)
met_at b e left m k h =
    let (fits, _, _) = step-parts (take e b) m h in
    let (whole, _, good) = step-split (take e b) m h in
    let before : List ℕ = m.before in
    let t : List ℕ = m.transaction in
    let two : List ℕ = drop (length (take e b) - 2) (take e b) in
    let rest : List ℕ = t ++ (two ++ drop e b) in
    let size : length (take e b) ≡ e = length-take-le e b k in
    let sizes : length (take e b) ≡ length before + (length t + length two) = ap length whole ∙ simp length-append in
    let split : b ≡ before ++ rest = sym (take-append-drop e b) ∙ ap (λ f. f ++ drop e b) whole ∙ simp append_assoc in
    let front : take (length before) b ≡ before = ap (take (length before)) split ∙ take_at before rest (length before) refl in
    let behind : drop (length before) b ≡ rest = ap (drop (length before)) split ∙ drop_at before rest (length before) refl in
    let here : take (length t) (drop (length before) b) ≡ t = rw behind (take_at t (two ++ drop e b) (length t) refl) in
    (front, here, omega (arith, length-drop (length (take e b) - 2) (take e b)), good)

-- a step with no record left
step_end : (b : List ℕ) (e : ℕ) → e ≤ length b → step_from b (record { end = e; left = 0 }) ≡ (if eqb e 0 then done None else refused 7)
unfolding step_from
step_end b e h = rw (le-ltb (length b) e h)

-- a step with records left
step-on : (b : List ℕ) (e k : ℕ) → e ≤ length b → step_from b (record { end = e; left = suc k }) ≡ map_done (λ m. Some (place_of (suc k) m)) (step_back (take e b))
unfolding step_from
step-on b e k h = rw (le-ltb (length b) e h, eqb-suc-zero k)

-- the walk back from a position goes by the step from there
pub walk_from_lem : (b : List ℕ) (p : Position) → p.end ≤ length b → walk_from b p ≡ and_then (step_from b p) (hand_on b (walk_from b))
unfolding walk_back
walk_from_lem b p h = by_left p.left p.end h
  where
    empty : (t : Bool) → (if t then done [] else refused 7) ≡ and_then (if t then done None else refused 7) (hand_on b (walk_from b))
    empty true = refl
    empty false = refl

    on : (k e : ℕ) → e ≤ length b → (o : Outcome Met) → step_back (take e b) ≡ o →
        and_then o (λ m. map_done (λ ts. m.transaction ∷ ts) (walk_back k m.before)) ≡ and_then (map_done (λ m. Some (place_of (suc k) m)) o) (hand_on b (walk_from b))
    on k e h (refused n) s = refl
    on k e h (done m) s =
        let (front, at, _, _) = met_at b e (suc k) m h s in
        let one : suc k - 1 ≡ k = omega arith in
        rw (one, at, front)

    by_left : (k e : ℕ) → e ≤ length b → walk_from b (record { end = e; left = k }) ≡ and_then (step_from b (record { end = e; left = k })) (hand_on b (walk_from b))
    by_left zero e h = rw (step_end b e h, length-take-le e b h) (empty (eqb e 0))
    by_left (suc k) e h = rw (step-on b e k h) (on k e h (step_back (take e b)) refl)

-- the place that a step hands out: one record fewer is left, the record ends where the step began, and its transaction is legal
pub record Stepped (b : List ℕ) (p : Position) (q : Place) : Type 0 where
  pub inside : p.end ≤ length b
  pub left : p.left ≡ q.next.left + 1
  pub next : q.next.end ≡ q.start
  pub back : q.start + q.length + 2 ≡ p.end
  pub good : legal (transaction_at b q) ≡ true

-- a step that hands out a place
pub step-place : (b : List ℕ) (p : Position) (q : Place) → step_from b p ≡ done (Some q) → Stepped b p q
unfolding step_from
step-place b p q h = by_left p.left p.end (ltb-false (length b) p.end (passed (ltb (length b) p.end) _ _ _ h).0) h
  where
    by_left : (k e : ℕ) → e ≤ length b → step_from b (record { end = e; left = k }) ≡ done (Some q) → Stepped b (record { end = e; left = k }) q
    by_left zero e i h =
        let (_, r) = met (eqb e 0) _ _ _ (sym (step_end b e i) ∙ h) in
        let z : ◌≡◌ {A = ℕ} 0 1 = cc in
        absurd (omega arith)
    by_left (suc k) e i h =
        let (m, met, r) = map-done _ (step_back (take e b)) (Some q) (sym (step-on b e k i) ∙ h) in
        let (_, at, back, good) = met_at b e (suc k) m i met in
        let same : place_of (suc k) m ≡ q = cc in
        rw (← same) (record { inside = i; left = omega arith; next = refl; back = back; good = rw at good })

-- a step that hands out none: no record and no byte is left
pub step-ends : (b : List ℕ) (p : Position) → step_from b p ≡ done None → (p.left ≡ 0) × (p.end ≡ 0)
unfolding step_from
step-ends b p h = by_left p.left p.end (ltb-false (length b) p.end (passed (ltb (length b) p.end) _ _ _ h).0) h
  where
    by_left : (k e : ℕ) → e ≤ length b → step_from b (record { end = e; left = k }) ≡ done None → (k ≡ 0) × (e ≡ 0)
    by_left zero e i h = (refl, eqb-true e 0 (met (eqb e 0) _ _ _ (sym (step_end b e i) ∙ h)).0)
    by_left (suc k) e i h =
        let (m, met, r) = map-done _ (step_back (take e b)) None (sym (step-on b e k i) ∙ h) in
        let z : ◌≡◌ {A = ℕ} 0 1 = cc in
        absurd (omega arith)

-- where stepping on from the place that a step hands out gives what the walk gives, so does stepping from before it
handed-step : (k : ℕ) (b : List ℕ) (p : Position) → p.end ≤ length b → ((q : Place) → Stepped b p q → handed_out k b q.next ≡ walk_from b q.next) → handed_out (suc k) b p ≡ walk_from b p
unfolding handed_out
handed-step k b p h rest = rw (walk_from_lem b p h) (go (step_from b p) refl)
  where
    go : (o : Outcome (Option Place)) → step_from b p ≡ o → and_then o (hand_on b (handed_out k b)) ≡ and_then o (hand_on b (walk_from b))
    go (refused n) s = refl
    go (done None) s = refl
    go (done (Some q)) s = rw (rest q (step-place b p q s))

-- a position within the bytes: stepping from it hands out what the walk back gives
handed-walk : (k : ℕ) (b : List ℕ) (p : Position) → p.left ≡ k → p.end ≤ length b → handed_out (suc k) b p ≡ walk_from b p
handed-walk zero b p l h = handed-step zero b p h λ q s. absurd (omega arith)
handed-walk (suc k) b p l h = handed-step (suc k) b p h λ q s. handed-walk k b q.next (omega arith) (omega arith)

-- all transactions read through the cursor are those of the journal, newest first, and a refusal is the same
pub cursor_newest : (b : List ℕ) → and_then (trailer b) (λ p. handed_out (p.left + 1) b p) ≡ newest_first b
cursor_newest b = go (trailer b) refl
  where
    go : (o : Outcome Position) → trailer b ≡ o → and_then o (λ p. handed_out (p.left + 1) b p) ≡ and_then o (walk_from b)
    go (refused n) s = refl
    go (done p) s =
        let (_, _, size, e) = trailer-parts b p s in
        let end : last_number b ≡ p.end = ap (λ q. q.end) e in
        rw (add-one p.left) (handed-walk p.left b p refl (omega arith))

-- where so many steps from a position lead
unfoldable reached : ℕ → List ℕ → Position → Outcome (Option Place)
reached zero b p = step_from b p
reached (suc k) b p = and_then (reached k b p) (step_past b)

-- one step first, or last
reached_shift : (k : ℕ) (b : List ℕ) (p : Position) (q : Place) → step_from b p ≡ done (Some q) → reached (suc k) b p ≡ reached k b q.next
unfolding reached
reached_shift zero b p q e = rw e
reached_shift (suc k) b p q e = ap (λ o. and_then o (step_past b)) (reached_shift k b p q e)

-- a cursor's steps are those from the trailer
cursor_reached : (k : ℕ) (b : List ℕ) (p : Position) → trailer b ≡ done p → cursor_at b k ≡ reached k b p
unfolding reached cursor_at
cursor_reached zero b p e = rw e
cursor_reached (suc k) b p e = ap (λ o. and_then o (step_past b)) (cursor_reached k b p e)

-- a walk that meets a transaction: its first step, and the rest of it
walk_first : (b : List ℕ) (p : Position) (rs : List (List ℕ)) → p.end ≤ length b → walk_from b p ≡ done rs → 0 < length rs →
    (q : Place) × (us : List (List ℕ)) × (step_from b p ≡ done (Some q)) × (walk_from b q.next ≡ done us) × (transaction_at b q ∷ us ≡ rs)
walk_first b p rs h w l = go (step_from b p) refl (sym (walk_from_lem b p h) ∙ w)
  where
    go : (o : Outcome (Option Place)) → step_from b p ≡ o → and_then o (hand_on b (walk_from b)) ≡ done rs →
        (q : Place) × (us : List (List ℕ)) × (step_from b p ≡ done (Some q)) × (walk_from b q.next ≡ done us) × (transaction_at b q ∷ us ≡ rs)
    go (refused n) e w = let z : ◌≡◌ {A = ℕ} 0 1 = cc in absurd (omega arith)
    go (done None) e w =
        let empty : rs ≡ [] = cc in
        absurd (omega (arith, ap length empty))
    go (done (Some q)) e w =
        let (us, walk, same) = map-done _ (walk_from b q.next) rs w in
        (q, us, e, walk, same)

-- steps lead to the transaction that the walk meets after so many others
reached-at : (k : ℕ) (b : List ℕ) (p : Position) (rs : List (List ℕ)) → p.end ≤ length b → walk_from b p ≡ done rs → k < length rs →
    (q : Place) × (reached k b p ≡ done (Some q)) × (transaction_at b q ≡ get_or rs k [])
unfolding reached
reached-at zero b p rs h w l =
    let (q, us, e, _, same) = walk_first b p rs h w l in
    (q, e, ap (λ ts. get_or ts 0 []) same)
reached-at (suc k) b p rs h w l =
    let (q, us, e, walk, same) = walk_first b p rs h w (omega arith) in
    let s = step-place b p q e in
    let (r, there, holds) = reached-at k b q.next us (omega (arith, s.inside, s.back, s.next)) walk (omega (arith, ap length same)) in
    (r, reached_shift k b p q e ∙ there, holds ∙ ap (λ ts. get_or ts (suc k) []) same)

-- after so many steps from the newest record a cursor stands at the record with that index from the newest
pub cursor_at_lem : (b : List ℕ) (rs : List (List ℕ)) (k : ℕ) → newest_first b ≡ done rs → k < length rs → (q : Place) × (cursor_at b k ≡ done (Some q)) × (transaction_at b q ≡ get_or rs k [])
cursor_at_lem b rs k h l =
    let (p, opened, walk) = then_done (trailer b) _ rs h in
    let (q, there, holds) = reached-at k b p rs (trailer-inside b p opened) walk l in
    (q, cursor_reached k b p opened ∙ there, holds)
