-- The paper's whole fields and ours: a transaction has blocks of as many complete fields as fit exactly if none of its fields is too long, they are those that the cuts give,
-- and there are no others.
use mathlib.Core.Bool.{Bool, true, false, false≢true}
use mathlib.Core.List.{List, [], ◌∷◌, ◌++◌}
use mathlib.Core.Logic.{inl, inr}
use mathlib.Core.Path.{◌≡◌, refl, sym, ap, ◌∙◌}
use Prim.Native.Nat.{ℕ, zero, suc, ◌+◌, ◌-◌, ◌≤◌, ◌<◌}
use native.Mathlib.Omega.{arith}
use borrow.Author.Tests.{le-leb, lt-leb, leb-true, leb-false, eqb-true}
use lib.Dec.{leb}
use lib.ListN.{length, get_or, take, drop, length-append, length-take, length-drop, take-append-drop}
use lib.Seq.{length-take-le, take-length, take-append-le, take-append-add, take-append_seam, drop-append_seam, drop-append-add}
use Rattle.line.specs.Character.{CR, printable, textual}
use Rattle.line.specs.Test.{all}
use Rattle.line.specs.Transaction.{Fields, none, next, Transaction, ends_in_cr}
use Rattle.line.proofs.AllLaws.{all-at, all_take}
use Rattle.line.proofs.ListLaws.{length_none}
use Rattle.line.proofs.TransactionLaws.{ends-append, ends-joined, ends_last, ends_some, legal-parts, legal-short, legal-transaction, transaction-legal}
use Rattle.block.specs.Block.{Segment}
use Rattle.block.specs.Segments.{segment}
use Rattle.block.specs.declared.frame.Ending.TheVariants.{Etx, Etb}
use Rattle.segmentation.specs.Segmentation.{segments_by, complete, whole_fields, fields_within, segmentation_by}
use Rattle.segmentation.specs.WholeFields.{EachFits, CompleteFields, CutWhole, last, more}
use Rattle.segmentation.specs.declared.way.Way.TheVariants.{WholeFields}
use Rattle.segmentation.proofs.WayLaws.{all_segments, way_next, ends-behind, joined-text}
use Rattle.segmentation.proofs.WholeFieldsLaws.{Takes, complete-within, complete_most, complete-ends, complete-is, whole_takes, whole_cuts, whole_is, whole_most, within-short, within-behind, within-never, never-complete}

-- ── Fields ──

-- a field does not end in CR, nor does its start
field_open : (f : List ℕ) → all printable f ≡ true → ends_in_cr f ≡ false
unfolding ends_in_cr
field_open [] h = refl
field_open (c ∷ f) h = go (ends_in_cr (c ∷ f)) refl
  where
    place : ℕ
    place = length (c ∷ f) - 1

    go : (b : Bool) → ends_in_cr (c ∷ f) ≡ b → ends_in_cr (c ∷ f) ≡ false
    go true e =
        let cr = eqb-true (get_or (c ∷ f) place 0) CR (sym (ends_last (c ∷ f)) ∙ e) in
        absurd (false≢true (rw cr at (all-at printable (c ∷ f) place h (omega arith))))
    go false e = e

module _ (f t : List ℕ) (good : all printable f ≡ true) where
  -- within a field, nothing is complete
  field_incomplete : (k : ℕ) → k ≤ length f → ends_in_cr (take k (f ++ CR ∷ t)) ≡ false
  field_incomplete k h = rw (take-append-le k f (CR ∷ t) h) (field_open (take k f) (all_take printable k f good))

  -- with its CR, it is
  field_complete : ends_in_cr (take (length f + 1) (f ++ CR ∷ t)) ≡ true
  unfolding ends_in_cr
  field_complete = rw (take-append-add f (CR ∷ t) 1) (ends-append f CR [])

  -- the fields behind one that fits decide
  field_fits : length f + 1 ≤ 250 → fields_within 250 (f ++ CR ∷ t) ≡ fields_within 250 t
  field_fits h = within-behind (length f + 1) 250 (f ++ CR ∷ t) h (omega arith) field_complete ∙ ap (fields_within 250) (drop-append-add f (CR ∷ t) 1)

  -- one that does not is too long
  field_long : 250 < length f + 1 → fields_within 250 (f ++ CR ∷ t) ≡ false
  field_long h = within-never 250 (f ++ CR ∷ t) (rw length-append (omega arith)) (λ k some few. field_incomplete k (omega arith))

-- the test is that each field with its CR has at most 250 characters
pub fits_each : {fs : List (List ℕ)} {t : List ℕ} → Fields fs t → fields_within 250 t ≡ true → EachFits fs
fits_each none h = tt
fits_each (next {f} {t} {fs} good r) h = go fs (leb (length f + 1) 250) refl (λ q. fits_each r q)
  where
    go : (fs : List (List ℕ)) (b : Bool) → leb (length f + 1) 250 ≡ b → (fields_within 250 t ≡ true → EachFits fs) → EachFits (f ∷ fs)
    go fs true e further =
        let short = leb-true (length f + 1) 250 e in
        (short, further (sym (field_fits f t good short) ∙ h))
    go fs false e further = absurd (false≢true (sym (field_long f t good (leb-false (length f + 1) 250 e)) ∙ h))

-- and that is the test
pub each_fits : {fs : List (List ℕ)} {t : List ℕ} → Fields fs t → EachFits fs → fields_within 250 t ≡ true
unfolding fields_within
each_fits none h = refl
each_fits (next {f} {t} good r) (short, h) = field_fits f t good short ∙ each_fits r h

-- ── One block ──

-- complete fields end in CR
complete-end : {info : List ℕ} → CompleteFields info → ends_in_cr info ≡ true
complete-end {info} c =
    let whole : Transaction info = record { fields = c.fields; made = c.made; some = c.some; within = omega (arith, c.fits) } in
    let (_, _, end) = legal-parts info (transaction-legal whole) in
    end

-- what ends in CR and fits is one block
one_block : (info : List ℕ) → length info ≤ 250 → ends_in_cr info ≡ true → all_segments whole_fields info ≡ segment info Etx ∷ []
unfolding segments_by
one_block info fits end =
    let taken = whole_most info (length info) fits (rw (take-length info) end) in
    let none = length_none (drop (whole_fields info) info) (omega (arith, length-drop (whole_fields info) info)) in
    way_next whole_cuts info (ends_some info end) ∙ rw (le-leb (length info) (whole_fields info) taken, none)

-- fields have a character
fields-some : {f t : List ℕ} {fs : List (List ℕ)} → Fields (f ∷ fs) t → 1 ≤ length t
fields-some (next {f} {t} good r) = rw length-append (omega arith)

-- complete fields behind which the next field does not fit are the next block
module _ (info : List ℕ) (end : ends_in_cr info ≡ true) (fits : length info ≤ 250) where
  -- nothing more is complete
  takes_no_more : {f t : List ℕ} {fs : List (List ℕ)} → Fields (f ∷ fs) t → 250 < length info + (length f + 1) → complete 250 (info ++ t) ≡ length info
  takes_no_more (next {f} {t} good r) long =
      complete-is 250 (length info) (info ++ (f ++ CR ∷ t)) fits (rw (take-append_seam info (f ++ CR ∷ t)) end) λ k past few.
      let j = k - length info in
      let part : k ≡ length info + j = omega arith in
      let some : 1 ≤ length (take j (f ++ CR ∷ t)) = omega (arith, length-take j (f ++ CR ∷ t), length-append f (CR ∷ t)) in
      ap (λ n. ends_in_cr (take n (info ++ (f ++ CR ∷ t)))) part ∙ rw (take-append-add info (f ++ CR ∷ t) j, ends-behind info (take j (f ++ CR ∷ t)) some) (field_incomplete f t good j (omega arith))

  -- so they are it
  next-block : {f t : List ℕ} {fs : List (List ℕ)} → Fields (f ∷ fs) t → 250 < length info + (length f + 1) → all_segments whole_fields (info ++ t) ≡ segment info Etb ∷ all_segments whole_fields t
  next-block {t = t} fields long =
      let some = ends_some info end in
      let taken = takes_no_more fields long in
      let whole : whole_fields (info ++ t) ≡ length info = whole_is (info ++ t) (omega arith) ∙ taken in
      let size = length-append info t in
      let rest = fields-some fields in
      way_next whole_cuts (info ++ t) (omega arith)
      ∙ rw (whole, lt-leb (length (info ++ t)) (length info) (omega arith), take-append_seam info t, drop-append_seam info t, end)

-- ── All blocks ──

-- no other blocks are cut so
pub whole_only : {ss : List Segment} {t : List ℕ} → CutWhole ss t → ss ≡ segmentation_by WholeFields t
unfolding segmentation_by
whole_only (last {info} c) = sym (one_block info c.fits (complete-end c))
whole_only (more {info} {t} c fields long r) = sym (next-block info (complete-end c) c.fits fields long ∙ rw (← whole_only r))

-- what is cut so has no field too long
pub whole-fits : {ss : List Segment} {t : List ℕ} → CutWhole ss t → fields_within 250 t ≡ true
whole-fits (last {info} c) = within-short 250 info (omega arith) c.fits
whole-fits (more {info} {t} c fields long r) =
    within-behind (length info) 250 (info ++ t) c.fits (omega arith) (rw (take-append_seam info t) (complete-end c)) ∙ rw (drop-append_seam info t) (whole-fits r)

-- what ends in CR and is made of characters of a transaction is made of fields
fields_of_lem : (t : List ℕ) → length t ≤ 2000 → all textual t ≡ true → ends_in_cr t ≡ true → Transaction t
fields_of_lem t few text end = legal-transaction t (legal-short t few ∙ rw (text, end))

-- the first field of a transaction, and those behind it
first_field_lem : {t : List ℕ} → Transaction t → (f : List ℕ) × (fs : List (List ℕ)) × Fields (f ∷ fs) t
first_field_lem {t} r = go r.fields r.made r.some
  where
    go : (fs : List (List ℕ)) → Fields fs t → 1 ≤ length fs → (f : List ℕ) × (gs : List (List ℕ)) × Fields (f ∷ gs) t
    go [] made some = absurd (omega arith)
    go (f ∷ fs) made some = (f, fs, made)

-- with its first field, what is left behind the complete ones would be more than 250: else that field would be complete too
next_too_long : (t info : List ℕ) {f left : List ℕ} {fs : List (List ℕ)} → Fields (f ∷ fs) left → info ++ left ≡ t → length info ≡ complete 250 t → 250 < length info + (length f + 1)
next_too_long t info (next {f} {t = u} good r) whole size = go (leb (length info + (length f + 1)) 250) refl
  where
    reaches : ends_in_cr (take (length info + (length f + 1)) t) ≡ true
    reaches = rw (← whole, take-append-add info (f ++ CR ∷ u) (length f + 1)) (ends-joined info (take (length f + 1) (f ++ CR ∷ u)) (field_complete f u good))

    go : (b : Bool) → leb (length info + (length f + 1)) 250 ≡ b → 250 < length info + (length f + 1)
    go true q = absurd (omega (arith, complete_most 250 (length info + (length f + 1)) t (leb-true _ 250 q) reaches))
    go false q = leb-false _ 250 q

-- fields of at most 250 characters are complete fields
complete-fields : {info : List ℕ} → Transaction info → length info ≤ 250 → CompleteFields info
complete-fields r fits = record { fields = r.fields; made = r.made; some = r.some; fits = fits }

-- the cuts give such blocks, where no field is too long
whole_by : (k : ℕ) (t : List ℕ) → length t ≤ k → length t ≤ 2000 → all textual t ≡ true → ends_in_cr t ≡ true → fields_within 250 t ≡ true → CutWhole (segments_by whole_fields k t) t
unfolding segments_by
whole_by zero t h few text end fit = absurd (omega (arith, ends_some t end))
whole_by (suc k) t h few text end fit = go (leb (length t) (whole_fields t)) refl (whole_by k (drop (whole_fields t) t)) (whole_takes t)
  where
    info : List ℕ
    info = take (whole_fields t) t

    left : List ℕ
    left = drop (whole_fields t) t

    go : (b : Bool) → leb (length t) (whole_fields t) ≡ b →
        (length left ≤ k → length left ≤ 2000 → all textual left ≡ true → ends_in_cr left ≡ true → fields_within 250 left ≡ true → CutWhole (segments_by whole_fields k left) left) →
        Takes t → CutWhole (segments_by whole_fields (suc k) t) t
    go true e further takes =
        let short = leb-true (length t) (whole_fields t) e in
        rw e (last (complete-fields (fields_of_lem t few text end) (omega (arith, whole_cuts.fits t))))
    go false e further (inl (empty, filled)) =
        let far = leb-false (length t) (whole_fields t) e in
        absurd (false≢true (sym (never-complete t empty (omega arith)) ∙ fit))
    go false e further (inr (some, taken)) =
        let far = leb-false (length t) (whole_fields t) e in
        let fits = complete-within 250 t in
        let whole = take-append-drop (whole_fields t) t in
        let size : length info ≡ whole_fields t = length-take-le (whole_fields t) t (omega arith) in
        let rest = length-drop (whole_fields t) t in
        let (info-text, left-text) = joined-text info left (rw whole text) in
        let info-end : ends_in_cr info ≡ true = rw (← taken) at (complete-ends 250 t some) in
        let left_end : ends_in_cr left ≡ true = sym (ends-behind info left (omega arith)) ∙ rw whole end in
        let left-fit : fields_within 250 left ≡ true = sym (within-behind (whole_fields t) 250 t (omega arith) (omega arith) info-end) ∙ fit in
        let block = complete-fields (fields_of_lem info (omega arith) info-text info-end) (omega arith) in
        let (f, fs, fields) = first_field_lem (fields_of_lem left (omega arith) left-text left_end) in
        let long = next_too_long t info fields whole (size ∙ taken) in
        rw (e, info-end) (rw whole at (more block fields long (further (omega arith) (omega arith) left-text left_end left-fit)))

-- a transaction without a field too long is cut so
pub whole-cut : (t : List ℕ) → Transaction t → fields_within 250 t ≡ true → CutWhole (segmentation_by WholeFields t) t
unfolding segmentation_by
whole-cut t r fit =
    let (_, text, end) = legal-parts t (transaction-legal r) in
    whole_by (length t) t (omega arith) r.within text end fit
