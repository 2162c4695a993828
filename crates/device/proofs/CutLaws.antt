-- What the way can cut of a job: each of its transactions, in whatever order they are met on the walk back.
use Rattle.std.specs.Prelude.{None, Some}
use mathlib.Core.Bool.{Bool, true, ◌&&◌, and_assoc, and_comm, and-true, and-eq-true_iff}
use mathlib.Core.List.{List, [], ◌∷◌, ◌++◌, reverse, reverse-cons}
use mathlib.Core.Path.{◌≡◌, refl, sym}
use Prim.Native.Nat.{ℕ, zero, suc, ◌≤◌, ◌<◌}
use native.Mathlib.Nat.{le_of_suc-le-suc, not-suc-le-zero}
use lib.ListN.{length, get_or}
use Rattle.line.specs.Answer.{Outcome, done, refused, map_done, output}
use Rattle.journal.specs.Cursor.{transaction_at, walk_from}
use Rattle.journal.specs.Walk.{decode, newest_first, step_from}
use Rattle.journal.specs.declared.cursor.Place.{Place}
use Rattle.journal.specs.declared.cursor.Position.{Position}
use Rattle.journal.proofs.CursorLaws.{walk_from_lem}
use Rattle.segmentation.specs.Segmentation.{cuttable}
use Rattle.segmentation.specs.declared.way.Way.{Way}
use Rattle.segmentation.specs.declared.way.Way.TheVariants.{Filled}
use Rattle.device.specs.Step.{cuts_all}

-- blocks that are filled cut every job
pub cuts_filled : (ts : List (List ℕ)) → cuts_all Filled ts ≡ true
unfolding cuts_all
cuts_filled [] = refl
cuts_filled (t ∷ ts) = cuts_filled ts

module _ (way : Way) where
  -- each transaction can be cut
  pub cuts_at : (ts : List (List ℕ)) (i : ℕ) → cuts_all way ts ≡ true → i < length ts → cuttable way (get_or ts i []) ≡ true
  unfolding cuts_all
  cuts_at [] i h l = absurd (not-suc-le-zero l)
  cuts_at (t ∷ ts) zero h l = ((and-eq-true_iff (cuttable way t) (cuts_all way ts)).0 h).0
  cuts_at (t ∷ ts) (suc i) h l = cuts_at ts i ((and-eq-true_iff (cuttable way t) (cuts_all way ts)).0 h).1 (le_of_suc-le-suc l)

  -- one transaction more
  cuts_snoc : (ts : List (List ℕ)) (t : List ℕ) → cuts_all way (ts ++ t ∷ []) ≡ (cuttable way t && cuts_all way ts)
  unfolding cuts_all
  cuts_snoc [] t = refl
  cuts_snoc (u ∷ ts) t = rw (cuts_snoc ts t, ← and_assoc (cuttable way u) (cuttable way t) (cuts_all way ts), and_comm (cuttable way u) (cuttable way t), and_assoc)

  -- in whatever order
  pub cuts_reverse : (ts : List (List ℕ)) → cuts_all way (reverse ts) ≡ cuts_all way ts
  unfolding cuts_all
  cuts_reverse [] = refl
  cuts_reverse (t ∷ ts) = rw (reverse-cons t ts, cuts_snoc (reverse ts) t, cuts_reverse ts)

  -- of a job, read from its newest transaction on
  pub cuts_newest : (b : List ℕ) → cuts_all way (output (decode b)) ≡ cuts_all way (output (newest_first b))
  cuts_newest b = go (newest_first b)
    where
      go : (o : Outcome (List (List ℕ))) → cuts_all way (output (map_done reverse o)) ≡ cuts_all way (output o)
      go (done ts) = cuts_reverse ts
      go (refused k) = refl

  -- ── On the walk ──

  -- whether the way can cut those met so far, and those that the rest of the walk meets; nothing is found where that is refused
  abbrev pub cuts_on : Bool → Outcome (List (List ℕ)) → Bool
  cuts_on every (done ts) = every && cuts_all way ts
  cuts_on every (refused k) = true

  -- from where the walk starts
  pub cuts_start : (o : Outcome (List (List ℕ))) → cuts_on true o ≡ cuts_all way (output o)
  unfolding cuts_all
  cuts_start (done ts) = refl
  cuts_start (refused k) = refl

  module _ (b : List ℕ) (p : Position) (every : Bool) (inside : p.end ≤ length b) where
    -- one more is met
    pub cuts_met : (q : Place) → step_from b p ≡ done (Some q) → cuts_on every (walk_from b p) ≡ cuts_on (every && cuttable way (transaction_at b q)) (walk_from b q.next)
    unfolding cuts_all
    cuts_met q e = rw (walk_from_lem b p inside, e) (go (walk_from b q.next))
      where
        go : (o : Outcome (List (List ℕ))) → cuts_on every (map_done (λ ts. transaction_at b q ∷ ts) o) ≡ cuts_on (every && cuttable way (transaction_at b q)) o
        go (done ts) = sym (and_assoc every (cuttable way (transaction_at b q)) (cuts_all way ts))
        go (refused k) = refl

    -- all are met
    pub cuts_end : step_from b p ≡ done None → cuts_on every (walk_from b p) ≡ every
    unfolding cuts_all
    cuts_end e = rw (walk_from_lem b p inside, e, and-true)

    -- the walk is refused
    pub cuts_refused : (k : ℕ) → step_from b p ≡ refused k → cuts_on every (walk_from b p) ≡ true
    cuts_refused k e = rw (walk_from_lem b p inside, e)
