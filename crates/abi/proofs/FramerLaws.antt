-- What the framer owes, in numbers; 0 with code 0 says that no string is complete yet; and a record of zeros is the start.
use Rattle.std.specs.Prelude.{Option, Some, None, option_map, unwrap_or}
use mathlib.Core.List.{List, [], ◌∷◌}
use mathlib.Core.Path.{◌≡◌, refl, ap, ◌∙◌}
use Prim.Native.Nat.{ℕ, ◌≤◌}
use native.Mathlib.Omega.{arith}
use lib.ListN.{length, replicate, length-append}
use Rattle.line.specs.Answer.{Outcome, done, refused, map_done, outcome_of, overlay}
use Rattle.framer.specs.Framing.{Feeding, fed, Whole, goodbye, block, full}
use Rattle.framer.specs.State.{blank, state_of, held_in, fed_to, handed, Feeds, Flushes}
use Rattle.framer.specs.declared.Fed.{Fed}
use Rattle.framer.specs.declared.Flushed.{Flushed}
use Rattle.framer.specs.declared.Framer.{Framer}
use Rattle.framer.proofs.StateLaws.{done-tested, range-held}
use Rattle.framer.proofs.WholeLaws.{fed-whole}
use Rattle.abi.specs.Answer.{answer_of}
use Rattle.abi.specs.Framers.{framed_answer, FramerFeeds, FramerFlushes}
use Rattle.abi.specs.declared.answer.Answer.{Answer}

-- the length of what is handed over
handed-length : (x : Option (List ℕ)) → unwrap_or (option_map length x) 0 ≡ length (unwrap_or x [])
handed-length None = refl
handed-length (Some x) = refl

fed-answer : (o : Outcome Feeding) → framed_answer (map_done (λ f. option_map length f.string) o) ≡ answer_of (map_done (λ f. length (handed f)) o)
fed-answer (done f) = rw (handed-length f.string) refl
fed-answer (refused n) = refl

-- what feeding owes is owed to a C caller
pub framer_feeds : {o : Outcome Feeding} {s : Framer} {t : Fed} {a : Answer} {out out' : List ℕ} → Feeds o s t out out' → a ≡ framed_answer (outcome_of t.outcome) →
    FramerFeeds o s (record { answer = a; used = t.used; state = t.state }) out out'
framer_feeds {o} w e = record { answers = rw (e, w.answers, fed-answer o, w.uses, w.next) refl; leaves = w.leaves }

-- and what a flush owes
pub framer_flushes : {o : Outcome (List ℕ)} {s : Framer} {t : Flushed} {a : Answer} {out out' : List ℕ} → Flushes o s t out out' → a ≡ answer_of (outcome_of t.outcome) →
    FramerFlushes o s (record { answer = a; state = t.state }) out out'
framer_flushes w e = record { answers = rw (e, w.wrote.answers, w.next) refl; leaves = w.wrote.leaves }

-- a whole string has two characters or more
whole-two : {x : List ℕ} → Whole x → 2 ≤ length x
whole-two (goodbye e c _) = omega arith
whole-two (block s e before behind _ _ _ four _) = omega (arith, length-append before (e ∷ behind))
whole-two (full s rest _ count _) = omega arith

-- so where feeding is done and counts 0, no string is complete yet
pub none_yet : (s : Framer) (bytes : List ℕ) (room : ℕ) (f : Feeding) → fed_to s bytes room ≡ done f → length (handed f) ≡ 0 → f.string ≡ None
none_yet s bytes room f e none-counted = go f.string refl
  where
    go : (x : Option (List ℕ)) → f.string ≡ x → x ≡ None
    go None is = refl
    go (Some x) is =
        let (ranged, _, same) = done-tested s room (fed (held_in s) bytes) f e in
        let two = whole-two (fed-whole (held_in s) bytes x (range-held s ranged) (ap (λ (g : Feeding). g.string) same ∙ is)) in
        let count : length x ≡ 0 = rw is at none-counted in
        absurd (omega arith)

-- a record of zeros is the start
pub zeros-start : record { held = replicate 256 0; length = 0 } ≡ state_of []
unfolding blank overlay
zeros-start = refl
