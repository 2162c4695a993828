-- The model of a run: the real rules as the model's, with what the model asks of them.
use mathlib.Core.Bool.{Bool, true, false, not, false≢true, and-eq-true_iff}
use mathlib.Core.List.{List, [], ◌∷◌, ◌++◌}
use mathlib.Core.Path.{◌≡◌, refl}
use Prim.Native.Nat.{ℕ}
use native.Mathlib.Omega.{arith}
use borrow.Author.Tests.{ltb-true, ltb-false, le-ltb, lt-leb, not-true}
use lib.Dec.{ltb}
use lib.ListN.{length, length-append}
use Rattle.line.specs.Transaction.{legal}
use Rattle.block.proofs.SegmentsLaws.{joins-some}
use Rattle.block.specs.Block.{Segment}
use Rattle.block.specs.Segments.{segment, Joins, last, more}
use Rattle.block.specs.declared.frame.Ending.TheVariants.{Etx}
use Rattle.journal.specs.Encoding.{all_legal}
use Rattle.admission.specs.Content.{content, admits}
use Rattle.central.specs.Reaction.{Rules, meets}
use Rattle.device.proofs.SegmentsLaws.{segments_join}
use Rattle.device.specs.Reaction.{segments_of}
use Rattle.demand.specs.Clean.{matching}
use Rattle.demand.specs.Run.{Inputs}
use Rattle.demand.proofs.Messages.{Blocks, Parameters, Limits}
use Rattle.demand.proofs.Claim.{Laws, Pieces, final, piece, WellCut, cut-none, cut-next}

-- a list of blocks as one that is not empty
abbrev pub parts : List Segment → Blocks
parts [] = record { first = segment [] Etx; more = [] }
parts (g ∷ gs) = record { first = g; more = gs }

-- over any journal type
module _ {J : Type 0} where
  -- the rules of a run, as the model takes them
  abbrev pub model : Inputs J → Parameters
  model i =
      record {
        J = J;
        admits = meets i.rules;
        put = i.rules.storage.put;
        fits = λ t. not (ltb i.rules.longest (length t));
        cut = λ t. parts (segments_of i.device t);
        match = matching i;
      }

  -- the limits of a run
  abbrev pub limits : Inputs J → Limits
  limits i = record { D = i.device.retries; C = i.rules.retries }

  -- ── What is asked of the rules ──

  -- what is admitted is not over L
  admitted-within : (r : Rules J) (journal : J) (t : List ℕ) → meets r journal t ≡ true → not (ltb r.longest (length t)) ≡ true
  unfolding admits content
  admitted-within r journal t h = go (ltb r.longest (length t)) refl
    where
      go : (b : Bool) → ltb r.longest (length t) ≡ b → not b ≡ true
      go true e = absurd (false≢true (rw (lt-leb (length t) r.longest (ltb-true r.longest (length t) e)) at h))
      go false e = refl

  -- the rules keep the laws
  pub model_laws : (i : Inputs J) → Laws (model i)
  model_laws i =
      let most = i.rules.longest in
      record {
        fits_prefix = λ a b e. rw (le-ltb most (length a) (omega (arith, ltb-false most (length (a ++ b)) (not-true _ e), length-append a b)));
        admits-fits = λ j t e. admitted-within i.rules j t e;
      }

-- ── What is asked of the job ──

-- blocks that join to a transaction are its pieces
joins_pieces : (g : Segment) (gs : List Segment) {t : List ℕ} → Joins (g ∷ gs) t → Pieces t g gs
joins_pieces g [] (last fits good) = final refl
joins_pieces g [] (more fits good goes_on_lem r) = absurd (omega (arith, joins-some r))
joins_pieces g (h ∷ hs) (more fits good goes_on_lem r) = piece {b = g} (rw goes_on_lem) (joins_pieces h hs r)

-- the same of a list of blocks made not empty
parts_pieces : (gs : List Segment) {t : List ℕ} → Joins gs t → Pieces t (parts gs).first (parts gs).more
parts_pieces [] r = absurd (omega (arith, joins-some r))
parts_pieces (g ∷ gs) r = joins_pieces g gs r

-- a legal transaction and those behind it
legal-cons : (t : List ℕ) (ts : List (List ℕ)) → all_legal (t ∷ ts) ≡ true → (legal t ≡ true) × (all_legal ts ≡ true)
unfolding all_legal
legal-cons t ts h = (and-eq-true_iff (legal t) (all_legal ts)).0 h

-- a legal job is well cut
pub legal-cut : {J : Type 0} (i : Inputs J) (ts : List (List ℕ)) → all_legal ts ≡ true → WellCut (model i) ts
legal-cut i [] h = cut-none
legal-cut i (t ∷ ts) h =
    let (good, rest) = legal-cons t ts h in
    cut-next (parts_pieces (segments_of i.device t) (segments_join i.device t good)) (legal-cut i ts rest)
