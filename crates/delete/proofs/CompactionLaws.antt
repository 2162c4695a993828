-- Compaction goes by the walk back: what a step hands out is one record more behind those kept before it, or none if it is chosen.
use Rattle.std.specs.Prelude.{None, Some, Result, Ok, Err, IsErrAnd, if◌then◌else◌}
use mathlib.Core.Bool.{Bool, true, false}
use mathlib.Core.List.{List, [], ◌∷◌, ◌++◌, append_assoc, reverse, reverse-cons}
use mathlib.Core.Path.{◌≡◌, refl, sym, ap, ◌∙◌}
use Prim.Native.Nat.{ℕ, ◌+◌, ◌≤◌}
use native.Mathlib.Omega.{arith}
use lib.ListN.{length, take, drop, length-append, length-reverse, take-append-drop}
use lib.Seq.{length-take-le, drop_at, take_at}
use Rattle.line.proofs.AllLaws.{all_take}
use Rattle.line.proofs.OutcomeLaws.{map-done, map-refused, handed-refusal}
use Rattle.line.proofs.OverlayLaws.{overlay-none}
use Rattle.line.specs.Answer.{Outcome, done, refused, refusal_number, map_done, output, overlay}
use Rattle.line.specs.Character.{byte}
use Rattle.line.specs.Test.{all}
use Rattle.line.specs.declared.answer.Refusal.{Refusal}
use Rattle.journal.proofs.CursorLaws.{step-place, walk_from_lem}
use Rattle.journal.proofs.RecordLaws.{record_length, records_snoc}
use Rattle.journal.proofs.SurveyLaws.{place-length}
use Rattle.journal.proofs.WalkLaws.{walk-bytes, walk-length}
use Rattle.journal.specs.Cursor.{transaction_at, walk_from}
use Rattle.journal.specs.Encoding.{record_of, records_of}
use Rattle.journal.specs.Walk.{step_from}
use Rattle.journal.specs.declared.cursor.Place.{Place}
use Rattle.journal.specs.declared.cursor.Position.{Position}
use Rattle.delete.specs.Inner.{Compacts, end_of, is_chosen, kept_from, moved_down, one_more}
use Rattle.delete.specs.declared.choice.Choice.{Choice}
use Rattle.delete.proofs.KeptLaws.{kept_fewer, kept_smaller}
use Rattle.delete.proofs.MoveLaws.{moved-laid}

-- what is kept of the records before a position, oldest first
abbrev pub kept_before : Choice → ℕ → List ℕ → Position → Outcome (List (List ℕ))
kept_before choice rank b p = map_done (λ rs. reverse (kept_from choice rank rs)) (walk_from b p)

-- a compaction that is done: the records that were met, newest first, and where those kept of them end and lie
pub record Compacted (choice : Choice) (rank : ℕ) (b after : List ℕ) (p kept : Position) : Type 0 where
  pub met : List (List ℕ)
  pub walk : walk_from b p ≡ done met
  pub ends : end_of (reverse (kept_from choice rank met)) ≡ kept
  pub laid : after ≡ overlay (records_of (reverse (kept_from choice rank met))) b

pub compacted : (choice : Choice) (rank : ℕ) (b after : List ℕ) (p kept : Position) → Compacts (kept_before choice rank b p) (Ok kept) b after → Compacted choice rank b after p kept
compacted choice rank b after p kept c =
    let (ks, made, e) = map-done end_of (kept_before choice rank b p) kept (sym c.answers) in
    let (rs, walk, same) = map-done _ (walk_from b p) ks made in
    record { met = rs; walk = walk; ends = rw same e; laid = c.leaves ∙ ap (λ o. overlay (records_of (output o)) b) made ∙ ap (λ us. overlay (records_of us) b) (sym same) }

-- the records that were met lie up to the position
pub walked-bytes : (b : List ℕ) (p : Position) (rs : List (List ℕ)) → all byte b ≡ true → walk_from b p ≡ done rs → take p.end b ≡ records_of (reverse rs)
walked-bytes b p rs bytes walk = walk-bytes p.left (take p.end b) rs (all_take byte p.end b bytes) walk

-- those kept end before the position, and are no more than were left
pub compacts_within : (choice : Choice) (rank : ℕ) (b after : List ℕ) (p kept : Position) → p.end ≤ length b → all byte b ≡ true → Compacts (kept_before choice rank b p) (Ok kept) b after → (kept.end ≤ p.end) × (kept.left ≤ p.left)
compacts_within choice rank b after p kept inside bytes c =
    let d = compacted choice rank b after p kept c in
    let rs = d.met in
    let size = ap length (walked-bytes b p rs bytes d.walk) in
    let long = length-take-le p.end b inside in
    let end = ap (λ (k : Position). k.end) d.ends in
    let left = ap (λ (k : Position). k.left) d.ends in
    let count = walk-length p.left (take p.end b) rs d.walk in
    let fewer = kept_fewer choice rank rs in
    let smaller = kept_smaller choice rank rs in
    (omega arith, omega (arith, length-reverse (kept_from choice rank rs)))

-- no record is left
pub compacts_none : (choice : Choice) (rank : ℕ) (b : List ℕ) (p : Position) → p.end ≤ length b → step_from b p ≡ done None → Compacts (kept_before choice rank b p) (Ok (record { end = 0; left = 0 })) b b
unfolding kept_from records_of
compacts_none choice rank b p inside e = rw (walk_from_lem b p inside, e) (record { answers = refl; leaves = overlay-none b })

-- the step is refused
pub compacts_refused : (choice : Choice) (rank : ℕ) (b : List ℕ) (p : Position) (q : Refusal) → p.end ≤ length b → step_from b p ≡ refused (refusal_number q) → Compacts (kept_before choice rank b p) (Err q) b b
unfolding records_of
compacts_refused choice rank b p q inside e = rw (walk_from_lem b p inside, e) (record { answers = refl; leaves = overlay-none b })

-- a refusal that is handed on with `?`
pub compacts-handed : {o : Outcome (List (List ℕ))} (q : Refusal) (r : Result Position Refusal) (b after : List ℕ) → IsErrAnd r (λ x. x ≡ q) → Compacts o (Err q) b after → Compacts o r b after
compacts-handed q r b after h c = record { answers = handed-refusal q r h ∙ c.answers; leaves = c.leaves }

-- a step hands out a record
module _ (choice : Choice) (rank : ℕ) (b : List ℕ) (p : Position) (q : Place) (step : step_from b p ≡ done (Some q)) where
  -- its transaction
  abbrev t : List ℕ
  t = transaction_at b q

  -- it is met before the rest
  met-first : walk_from b p ≡ map_done (λ ts. t ∷ ts) (walk_from b q.next)
  met-first = walk_from_lem b p (step-place b p q step).inside ∙ rw step

  -- what is behind it is refused
  pub compacts_stopped : (after : List ℕ) (r : Refusal) → Compacts (kept_before choice (rank + 1) b q.next) (Err r) b after → Compacts (kept_before choice rank b p) (Err r) b after
  compacts_stopped after r c =
      let none : walk_from b q.next ≡ refused (refusal_number r) = map-refused _ (walk_from b q.next) _ (map-refused end_of (kept_before choice (rank + 1) b q.next) _ (sym c.answers)) in
      rw (met-first, none) (record { answers = refl; leaves = c.leaves ∙ rw none })

  -- those kept so far end before it, and are no more than were left
  pub compacts_below : (after : List ℕ) (kept : Position) → all byte b ≡ true → Compacts (kept_before choice (rank + 1) b q.next) (Ok kept) b after → (kept.end ≤ q.start) × (kept.left ≤ q.next.left)
  compacts_below after kept bytes c =
      let s = step-place b p q step in
      let (low, few) = compacts_within choice (rank + 1) b after q.next kept (omega (arith, s.inside, s.back, s.next)) bytes c in
      (omega (arith, s.next), few)

  -- the record lies where the step found it
  record_there : (rs : List (List ℕ)) → all byte b ≡ true → walk_from b q.next ≡ done rs → take (length (record_of t)) (drop q.start b) ≡ record_of t
  record_there rs bytes walk =
      let s = step-place b p q step in
      let front = walked-bytes b q.next rs bytes walk in
      let whole = walked-bytes b p (t ∷ rs) bytes (met-first ∙ rw walk) in
      let long : length (records_of (reverse rs)) ≡ q.start = ap length (sym front) ∙ length-take-le q.next.end b (omega (arith, s.inside, s.back, s.next)) ∙ s.next in
      let rest : List ℕ = record_of t ++ drop p.end b in
      let parts : take p.end b ≡ records_of (reverse rs) ++ record_of t = whole ∙ rw (reverse-cons t rs, records_snoc) in
      let split : b ≡ records_of (reverse rs) ++ rest = sym (take-append-drop p.end b) ∙ ap (λ f. f ++ drop p.end b) parts ∙ rw append_assoc in
      ap (λ m. take (length (record_of t)) (drop q.start m)) split ∙ rw (drop_at (records_of (reverse rs)) rest q.start long) (take_at (record_of t) (drop p.end b) (length (record_of t)) refl)

  -- moved down it is one record more
  record_kept : (older : List (List ℕ)) (after : List ℕ) (kept : Position) → end_of (reverse older) ≡ kept → after ≡ overlay (records_of (reverse older)) b → kept.end ≤ q.start →
      take (length (record_of t)) (drop q.start b) ≡ record_of t → Compacts (done (reverse (t ∷ older))) (Ok (one_more kept (q.length + 2))) b (moved_down kept.end q.start (q.length + 2) after)
  record_kept older after kept ends laid below there =
      let size : length (record_of t) ≡ q.length + 2 = record_length t ∙ rw (place-length b p q (step-place b p q step)) in
      rw (← ends, laid, ← size, reverse-cons t older) (record {
        answers = rw (records_snoc, length-append (records_of (reverse older)) (record_of t), length-append (reverse older) (t ∷ []));
        leaves = rw records_snoc (moved-laid b (records_of (reverse older)) (record_of t) q.start (rw (← ends) at below) there);
      })

  -- one record more, unless it is chosen
  pub compacts_more : (chosen : Bool) (after : List ℕ) (kept : Position) → all byte b ≡ true → chosen ≡ is_chosen choice rank t → Compacts (kept_before choice (rank + 1) b q.next) (Ok kept) b after →
      Compacts (kept_before choice rank b p) (Ok (if chosen then kept else one_more kept (q.length + 2))) b (if chosen then after else moved_down kept.end q.start (q.length + 2) after)
  unfolding kept_from
  compacts_more chosen after kept bytes test c = rw (met-first, d.walk, ← test) (go chosen)
    where
      d : Compacted choice (rank + 1) b after q.next kept
      d = compacted choice (rank + 1) b after q.next kept c

      older : List (List ℕ)
      older = kept_from choice (rank + 1) d.met

      go : (x : Bool) → Compacts (done (reverse (if x then older else t ∷ older))) (Ok (if x then kept else one_more kept (q.length + 2))) b (if x then after else moved_down kept.end q.start (q.length + 2) after)
      go true = record { answers = ap done (sym d.ends); leaves = d.laid }
      go false = record_kept older after kept d.ends d.laid (compacts_below after kept bytes c).0 (record_there d.met bytes d.walk)
