-- What the readers make of a survey: the count, and the record at an index from either end, with the place where it lies.
use mathlib.Core.List.{List, [], reverse}
use mathlib.Core.Path.{◌≡◌, refl, sym, ap, subst, ◌∙◌}
use Prim.Native.Nat.{ℕ, ◌+◌, ◌-◌, ◌≤◌, ◌<◌}
use native.Mathlib.Omega.{arith}
use lib.ListN.{length, take, drop, get_or, length-reverse, get_or-eq_default}
use Rattle.line.specs.Answer.{Outcome, done, refused, map_done, output}
use Rattle.line.proofs.ListLaws.{get_d_reverse}
use Rattle.line.proofs.OutcomeLaws.{then_done, map-done}
use Rattle.journal.specs.Survey.{survey_of, Lies, HandedOldest, HandedNewest}
use Rattle.journal.specs.Walk.{trailer, newest_first, decode}
use Rattle.journal.specs.declared.cursor.Position.{Position}
use Rattle.journal.specs.declared.record.Located.{Located}
use Rattle.journal.proofs.SurveyLaws.{lies_at}
use Rattle.journal.proofs.WalkLaws.{walk-length}

-- a survey that found records: its count is theirs, and its extent is where the record at the index lies
module _ (b : List ℕ) (i : ℕ) (found : Located) (e : map_done (survey_of i) (decode b) ≡ done found) where
  -- what was read
  made : (ts : List (List ℕ)) × (decode b ≡ done ts) × (survey_of i ts ≡ found)
  made = map-done (survey_of i) (decode b) found e

  -- the count
  pub survey_count : done found.count ≡ map_done length (decode b)
  survey_count = ap (λ (f : Located). done f.count) (sym made.2) ∙ sym (ap (map_done length) made.1)

  -- the record at the index lies there
  pub survey_lies : Lies b found.here (get_or (output (decode b)) i [])
  survey_lies =
      let (ts, read, same) = made in
      subst (λ (f : Located). Lies b f.here (get_or (output (decode b)) i [])) same (rw read (lies_at b ts read i))

  -- the part there is handed back
  pub survey_hands : {journal part : ℕ × ℕ} → part ≡ (journal.0, journal.1 + found.here.start) →
      HandedOldest b i journal (take found.here.length (drop found.here.start b)) part
  survey_hands {journal} p =
      record {
        holds = survey_lies.holds;
        lies = λ ts read _.
            let same : survey_of i ts ≡ found = cc in
            p ∙ ap (λ (f : Located). (journal.0, journal.1 + f.here.start)) (sym same);
      }

-- a journal that is not read hands nothing back, wherever that lies
pub refused_oldest : (b : List ℕ) (i k : ℕ) {journal part : ℕ × ℕ} → decode b ≡ refused k → HandedOldest b i journal [] part
refused_oldest b i k e = record { holds = rw e; lies = λ ts read _. let z : ◌≡◌ {A = ℕ} 0 1 = cc in absurd (omega arith) }

-- nor from its newest
refused_newest : (b : List ℕ) (i k : ℕ) {journal part : ℕ × ℕ} → newest_first b ≡ refused k → HandedNewest b i journal [] part
refused_newest b i k e =
    record { holds = rw e; lies = λ ts read _. let z : ◌≡◌ {A = ℕ} 0 1 = cc (ap (map_done reverse) e) in absurd (omega arith) }

-- nor does one that is not opened
pub unopened_newest : (b : List ℕ) (i k : ℕ) {journal part : ℕ × ℕ} → trailer b ≡ refused k → HandedNewest b i journal [] part
unopened_newest b i k e = refused_newest b i k (rw e)

-- a journal that is opened has as many records as its trailer says, where it is well formed
opened-length : (b : List ℕ) (p : Position) (rs : List (List ℕ)) → trailer b ≡ done p → newest_first b ≡ done rs → length rs ≡ p.left
opened-length b p rs o e =
    let (q, opened, walk) = then_done (trailer b) _ rs e in
    let same : q ≡ p = cc in
    rw (← same) (walk-length q.left _ rs walk)

-- the record at an index from the newest, of a journal that is opened
module _ (b : List ℕ) (p : Position) (i : ℕ) {journal part : ℕ × ℕ} (opened : trailer b ≡ done p) where
  -- there are too few
  pub newest_past : p.left ≤ i → HandedNewest b i journal [] part
  newest_past h = go (newest_first b) refl
    where
      go : (o : Outcome (List (List ℕ))) → newest_first b ≡ o → HandedNewest b i journal [] part
      go (refused k) e = refused_newest b i k e
      go (done rs) e =
          let many = opened-length b p rs opened e in
          record {
            holds = rw e (sym (get_or-eq_default rs [] (omega arith)));
            lies = λ ts read l.
                let same : reverse rs ≡ ts = cc (ap (map_done reverse) e) in
                absurd (omega (arith, ap length same, length-reverse rs));
          }

  -- it is the one as far from the oldest
  pub newest_oldest : {info : List ℕ} → i < p.left → HandedOldest b (p.left - 1 - i) journal info part → HandedNewest b i journal info part
  newest_oldest {info} h d = go (newest_first b) refl
    where
      go : (o : Outcome (List (List ℕ))) → newest_first b ≡ o → HandedNewest b i journal info part
      go (refused k) e =
          record { holds = d.holds ∙ rw e; lies = λ ts read _. let z : ◌≡◌ {A = ℕ} 0 1 = cc (ap (map_done reverse) e) in absurd (omega arith) }
      go (done rs) e =
          let many = opened-length b p rs opened e in
          let place : length rs - 1 - (p.left - 1 - i) ≡ i = omega arith in
          record {
            holds = d.holds ∙ rw e (get_d_reverse rs (p.left - 1 - i) [] (omega arith) ∙ rw place);
            lies = λ ts read l.
                let same : reverse rs ≡ ts = cc (ap (map_done reverse) e) in
                let count : p.left ≡ length ts = sym many ∙ sym (length-reverse rs) ∙ ap length same in
                rw (← count) (d.lies ts read (omega arith));
          }
