-- Laws of a journal written out: bytes put behind what is there, a walk that looks whether every record is a page, a page by its two fields, and a loop that puts the lines of one record after the other.
use Rattle.std.specs.Prelude.{None, Some, Result, if◌then◌else◌}
use mathlib.Core.Bool.{Bool, true, false, ◌&&◌, and_assoc, and_comm, and-true, and-eq-true_iff}
use mathlib.Core.List.{List, [], ◌∷◌, ◌++◌, flat_map, append_assoc, append-nil, reverse, reverse-cons}
use mathlib.Core.Path.{◌≡◌, refl, sym, ap, ◌∙◌}
use Prim.Native.Nat.{ℕ, ◌+◌, ◌-◌, ◌*◌, ◌≤◌, ◌<◌}
use native.Mathlib.Omega.{arith}
use borrow.Author.Tests.{eqb-true}
use lib.Dec.{eqb}
use lib.ListN.{length, take, drop, length-append, length-reverse, take-append-drop}
use lib.Seq.{length-take-le, take_at, drop-drop, drop-append_seam, drop-append-add}
use Rattle.line.proofs.CopyLaws.{copied-laid}
use Rattle.line.proofs.LaidLaws.{laid_none, part_length, laid-length, laid-part}
use Rattle.line.proofs.OutcomeLaws.{then_done, map-done, map-refused, met}
use Rattle.line.proofs.OverlayLaws.{overlay-own}
use Rattle.line.specs.Answer.{Outcome, done, refused, map_done, and_then, output, Laid, Wrote, copied}
use Rattle.line.specs.declared.answer.Refusal.{Refusal}
use Rattle.line.specs.Character.{CR, byte, printable}
use Rattle.line.specs.Test.{all, before}
use Rattle.line.specs.Text.{bytes_of}
use Rattle.line.specs.Transaction.{Fields, none, next, legal}
use Rattle.journal.proofs.CursorLaws.{walk_from_lem, step-place}
use Rattle.journal.proofs.EncodingLaws.{encode-decode, encode_records}
use Rattle.journal.proofs.RecordLaws.{record_length, encode-length}
use Rattle.journal.proofs.WalkLaws.{walk-length}
use Rattle.journal.specs.Cursor.{transaction_at, walk_from}
use Rattle.journal.specs.Encoding.{two_bytes, record_of, records_of, encode, all_legal, Journal}
use Rattle.journal.specs.Walk.{trailer, decode, step_from}
use Rattle.journal.specs.declared.cursor.Place.{Place}
use Rattle.journal.specs.declared.cursor.Position.{Position}
use Rattle.admission.proofs.ContentLaws.{TwoFields, two_fields, fields-first, printable-other}
use Rattle.admission.specs.Content.{first_field, field_count, is_pager_id, is_page}
use Rattle.export.specs.Export.{Adds, Exportable, page_lines, second_field, lines_for, lines_of, all_pages, only_pages, pages_in, pages_from, transactions_of}

-- ── Bytes behind what is there ──

-- a copy to the memory from a place on, which has room
pub copied_adds : {r : Result ℕ Refusal} (at : ℕ) (xs out after : List ℕ) → at + length xs ≤ length out →
    Wrote (copied xs (length (take (length out - at) (drop at out)))) r (take (length out - at) (drop at out)) after →
    Adds at xs (at + length xs) out (take at out ++ (after ++ drop (length out - at) (drop at out)))
copied_adds at xs out after h w laid memory d e =
    let room = part_length at out in
    laid-part d (omega arith) (record { counts = refl; leaves = copied-laid xs (take (length out - at) (drop at out)) after (omega arith) w })

-- bytes that are put behind what is there, and have room
module _ {at end : ℕ} {xs out out' : List ℕ} (adds : Adds at xs end out out') (room : at + length xs ≤ length out) where
  -- all that is there then, laid over the memory itself
  adds_own : Laid (take at out ++ xs) end out out'
  adds_own = adds (take at out) out (record { counts = sym (length-take-le at out (omega arith)); leaves = overlay-own at out (omega arith) }) refl

  -- where they end
  pub adds_ends : end ≡ at + length xs
  adds_ends = adds_own.counts ∙ rw (length-append, length-take-le at out (omega arith))

  -- the memory keeps its length
  pub adds_length : length out' ≡ length out
  adds_length = laid-length adds_own (omega (arith, adds_ends))

  -- and more behind
  pub adds_more : {ys out'' : List ℕ} {end' : ℕ} → Adds end ys end' out' out'' → Adds at (xs ++ ys) end' out out''
  adds_more {ys} more laid memory d e = rw append_assoc at (more (laid ++ xs) memory (adds laid memory d e) (e ∙ sym adds_length))

-- the room behind them
pub adds_room : {at end : ℕ} {xs out out' : List ℕ} → Adds at xs end out out' → (k : ℕ) → at + (length xs + k) ≤ length out → end + k ≤ length out'
adds_room adds k h = omega (arith, adds_ends adds (omega arith), adds_length adds (omega arith))

-- the texts of a page, one behind the other, are its lines
pub page_texts : (pager message : List ℕ) → bytes_of "PAGE " ++ (pager ++ (bytes_of "\r\nMESS " ++ (message ++ bytes_of "\r\nSEND\r\n"))) ≡ page_lines pager message
page_texts pager message = simp append_assoc

-- ── Every record is a page ──

-- a walk from p that has come to a position: whether every record is a page, by whether those met so far are
pub record Looked (b : List ℕ) (p at : Position) (every : Bool) : Type 0 where
  pub inside : at.end ≤ length b
  pub met : map_done all_pages (walk_from b p) ≡ map_done (λ rs. every && all_pages rs) (walk_from b at)

-- it begins
pub looked_none : (b : List ℕ) (p : Position) → p.end ≤ length b → Looked b p p true
looked_none b p h = record { inside = h; met = refl }

-- a walk on its way
module _ (b : List ℕ) (p at : Position) (every : Bool) (l : Looked b p at every) where
  -- one record more
  pub looked_more : (q : Place) → step_from b at ≡ done (Some q) → Looked b p q.next (every && is_page (transaction_at b q))
  unfolding all_pages
  looked_more q e =
      let s = step-place b at q e in
      record { inside = omega (arith, s.inside, s.back, s.next); met = l.met ∙ rw (walk_from_lem b at l.inside, e) (go (walk_from b q.next)) }
    where
      go : (w : Outcome (List (List ℕ))) →
          map_done (λ rs. every && all_pages rs) (map_done (λ ts. transaction_at b q ∷ ts) w) ≡ map_done (λ rs. every && is_page (transaction_at b q) && all_pages rs) w
      go (done rs) = rw and_assoc
      go (refused k) = refl

  -- all are met
  pub looked_all : step_from b at ≡ done None → (if every then done p.left else refused 6) ≡ map_done length (pages_from b p)
  unfolding all_pages
  looked_all e =
      let (rs, walk, same) = map-done all_pages (walk_from b p) every (l.met ∙ rw (walk_from_lem b at l.inside, e, and-true)) in
      rw (walk, same) (go every rs (walk-length p.left (take p.end b) rs walk))
    where
      go : (t : Bool) (rs : List (List ℕ)) → length rs ≡ p.left → (if t then done p.left else refused 6) ≡ map_done length (if t then done rs else refused 6)
      go true rs n = rw n
      go false rs n = refl

  -- the bytes are not well formed
  pub looked_refused : (k : ℕ) → step_from b at ≡ refused k → refused k ≡ map_done length (pages_from b p)
  looked_refused k e = sym (rw (map-refused all_pages (walk_from b p) k (l.met ∙ rw (walk_from_lem b at l.inside, e))))

-- two lists joined are pages where each is
pages-append : (ts us : List (List ℕ)) → all_pages (ts ++ us) ≡ (all_pages ts && all_pages us)
unfolding all_pages
pages-append [] us = refl
pages-append (t ∷ ts) us = rw (pages-append ts us, and_assoc)

-- records are pages the other way round too
pages-reverse : (ts : List (List ℕ)) → all_pages (reverse ts) ≡ all_pages ts
unfolding all_pages
pages-reverse [] = refl
pages-reverse (t ∷ ts) = rw (reverse-cons t ts, pages-append, pages-reverse ts, and-true, and_comm (all_pages ts) (is_page t))

-- a journal that is opened: the walk from its trailer meets its records
pub opened-pages : (b : List ℕ) (p : Position) → trailer b ≡ done p → map_done length (pages_from b p) ≡ map_done length (pages_in b)
opened-pages b p e = rw e (turned (walk_from b p))
  where
    same : (t : Bool) (rs : List (List ℕ)) → map_done length (if t then done rs else refused 6) ≡ map_done length (if t then done (reverse rs) else refused 6)
    same true rs = rw length-reverse
    same false rs = refl

    turned : (w : Outcome (List (List ℕ))) → map_done length (and_then w only_pages) ≡ map_done length (and_then (map_done reverse w) only_pages)
    turned (done rs) = rw pages-reverse (same (all_pages rs) rs)
    turned (refused k) = refl

-- a journal that is not opened
pub unopened_pages : (b : List ℕ) (k : ℕ) → trailer b ≡ refused k → refused k ≡ map_done length (pages_in b)
unopened_pages b k e = rw e

-- ── A page ──

-- a page has two fields, the first a pager ID
page-fields : (t : List ℕ) → legal t ≡ true → is_page t ≡ true → TwoFields t × (is_pager_id (first_field t) ≡ true)
unfolding is_page
page-fields t h p =
    let (two, pager) = (and-eq-true_iff (eqb (field_count t) 2) (is_pager_id (first_field t))).0 p in
    (two_fields t h (eqb-true (field_count t) 2 two), pager)

-- the second is the one between the CRs
second-between : {t : List ℕ} (w : TwoFields t) → w.second ≡ second_field t
unfolding second_field
second-between {t} w =
    let g = w.second in
    let made : Fields (g ∷ []) (g ++ CR ∷ []) = next w.second-printable none in
    let behind = ap (drop (length (first_field t) + 1)) w.joined ∙ drop-append-add (first_field t) (CR ∷ (g ++ CR ∷ [])) 1 in
    sym (ap first_field behind ∙ fields-first made)

-- a page is its two fields, each with a CR behind it: a pager ID, and printable characters
pub page-parts : (t : List ℕ) → legal t ≡ true → is_page t ≡ true →
    (t ≡ first_field t ++ CR ∷ (second_field t ++ CR ∷ [])) × (is_pager_id (first_field t) ≡ true) × (all printable (second_field t) ≡ true)
page-parts t h p =
    let (w, pager) = page-fields t h p in
    let second = second-between w in
    (rw second at w.joined, pager, rw second at w.second-printable)

-- how long the lines of a page are, by its fields
fields-length : (pager message : List ℕ) → length (page_lines pager message) ≡ length pager + length message + 20
fields-length pager message = simp length-append (omega arith)

-- the lines of a page have 18 characters more
pub lines-length : (t : List ℕ) → legal t ≡ true → is_page t ≡ true → length (lines_for t) ≡ length t + 18
lines-length t h p =
    let (joined, _, _) = page-parts t h p in
    omega (arith, fields-length (first_field t) (second_field t), simp length-append at (ap length joined))

-- the first CR is the one behind the field
before_field : (f t : List ℕ) → all printable f ≡ true → before CR (f ++ CR ∷ t) ≡ length f
unfolding all before
before_field [] t h = refl
before_field (c ∷ f) t h =
    let (p, q) = (and-eq-true_iff (printable c) (all printable f)).0 h in
    rw (printable-other c p, before_field f t q)

-- ── The lines of a journal, record by record ──

-- a journal whose records are pages is read, and each is one
pub pages-read : (journal : List ℕ) (ts : List (List ℕ)) → pages_in journal ≡ done ts → (decode journal ≡ done ts) × (all_pages ts ≡ true)
pages-read journal ts h =
    let (us, read, r) = then_done (decode journal) only_pages ts h in
    let (pages, e) = met (all_pages us) _ _ _ r in
    let same : us ≡ ts = cc in
    rw (← same) (read, pages)

-- where they are counted, these are its transactions
pub pages-counted : (journal : List ℕ) (n : ℕ) → map_done length (pages_in journal) ≡ done n → pages_in journal ≡ done (transactions_of journal)
pages-counted journal n h =
    let (ts, made, _) = map-done length (pages_in journal) n h in
    made ∙ ap (λ o. done (output o)) (sym (pages-read journal ts made).0)

-- a journal of pages: its bytes, its limits, and that each is a page
exported_parts : (journal out : List ℕ) → all byte journal ≡ true → Exportable journal out →
    (journal ≡ encode (transactions_of journal)) × Journal (transactions_of journal) × (all_pages (transactions_of journal) ≡ true)
exported_parts journal out bytes x =
    let (read, pages) = pages-read journal (transactions_of journal) x.pages in
    let (encoded, j) = encode-decode journal (transactions_of journal) bytes read in
    (encoded, j, pages)

-- it has a trailer
pub exported_long : (journal out : List ℕ) → all byte journal ≡ true → Exportable journal out → 4 ≤ length journal
exported_long journal out bytes x = omega (arith, ap length (exported_parts journal out bytes x).0, encode-length (transactions_of journal))

-- a page that lies at a place in the journal, before an end: its fields by the two CRs behind them
pub record Found (journal : List ℕ) (end at first second : ℕ) (t : List ℕ) : Type 0 where
  pub first-at : first ≡ at + length (first_field t)
  pub second_at : second ≡ first + 1 + length (second_field t)
  pub pager : take (first - at) (drop at journal) ≡ first_field t
  pub message : take (second - (first + 1)) (drop (first + 1) journal) ≡ second_field t
  pub size : second + 1 ≡ at + length t
  pub inside : second + 1 + 2 ≤ end

-- two CRs find it
page-found : (b t behind : List ℕ) (end at first second : ℕ) → legal t ≡ true → is_page t ≡ true → drop at b ≡ t ++ behind → at + length t + 2 ≤ end →
    first ≡ at + before CR (drop at b) → second ≡ first + 1 + before CR (drop (first + 1) b) → Found b end at first second t
page-found b t behind end at first second h p here fits e₁ e₂ =
    let (w, _) = page-fields t h p in
    let (joined, _, printed) = page-parts t h p in
    let f = first_field t in
    let g = second_field t in
    let there : drop at b ≡ f ++ CR ∷ (g ++ CR ∷ behind) = here ∙ ap (λ l. l ++ behind) joined ∙ simp append_assoc in
    let one : first ≡ at + length f = e₁ ∙ rw (there, before_field f (g ++ CR ∷ behind) w.first-printable) in
    let place : first + 1 ≡ at + (length f + 1) = omega arith in
    let rest : drop (first + 1) b ≡ g ++ CR ∷ behind =
    rw place (sym (drop-drop (length f + 1) at b) ∙ ap (drop (length f + 1)) there ∙ drop-append-add f (CR ∷ (g ++ CR ∷ behind)) 1) in
    let two : second ≡ first + 1 + length g = e₂ ∙ rw (rest, before_field g behind printed) in
    let size : second + 1 ≡ at + length t = omega (arith, simp length-append at (ap length joined)) in
    record {
      first-at = one;
      second_at = two;
      pager = rw there (take_at f (CR ∷ (g ++ CR ∷ behind)) (first - at) (omega arith));
      message = rw rest (take_at g (CR ∷ behind) (second - (first + 1)) (omega arith));
      size = size;
      inside = omega arith;
    }

-- how long a record and those behind it are
next-length : (t : List ℕ) (later : List (List ℕ)) → length (records_of (t ∷ later)) ≡ length t + 2 + length (records_of later)
unfolding records_of
next-length t later = rw (length-append, record_length)

-- a loop that has put the lines of the records before a place: the rest lies there, and has room
pub record Putting (journal memory out : List ℕ) (end at n : ℕ) (rest : List (List ℕ)) : Type 0 where
  pub lines : List ℕ
  pub whole : lines_of (transactions_of journal) ≡ lines ++ lines_of rest
  pub laid : Laid lines n memory out
  pub kept : length out ≡ length memory
  pub here : drop at journal ≡ records_of rest ++ drop end journal
  pub ends : at + length (records_of rest) ≡ end
  pub room : n + (length (records_of rest) + 16 * length rest) ≤ length memory
  pub good : all_legal rest ≡ true
  pub pages : all_pages rest ≡ true

-- it begins
pub putting_none : (journal out : List ℕ) → all byte journal ≡ true → Exportable journal out →
    Putting journal out out (length journal - 4) 0 0 (transactions_of journal)
putting_none journal out bytes x =
    let ts = transactions_of journal in
    let (encoded, j, pages) = exported_parts journal out bytes x in
    let size : length journal ≡ length (records_of ts) + 4 = ap length encoded ∙ encode-length ts in
    let end : length journal - 4 ≡ length (records_of ts) = omega arith in
    let records : take (length (records_of ts)) journal ≡ records_of ts = ap (take (length (records_of ts))) encoded ∙ encode_records ts in
    record {
      lines = [];
      whole = refl;
      laid = laid_none out;
      kept = refl;
      here = rw end (sym (take-append-drop (length (records_of ts)) journal) ∙ ap (λ l. l ++ drop (length (records_of ts)) journal) records);
      ends = omega arith;
      room = omega (arith, x.room, j.small, j.few);
      good = j.each;
      pages = pages;
    }

-- before the end there is a record
pub putting_some : {journal memory out : List ℕ} {end at n : ℕ} (rest : List (List ℕ)) → Putting journal memory out end at n rest → at < end →
    (t : List ℕ) × (later : List (List ℕ)) × Putting journal memory out end at n (t ∷ later)
unfolding records_of
putting_some [] p h = absurd (omega (arith, p.ends))
putting_some (t ∷ later) p h = (t, later, p)

-- at the end all are put
pub putting_all : {journal memory out : List ℕ} {end at n : ℕ} (rest : List (List ℕ)) → Putting journal memory out end at n rest → end ≤ at → Laid (lines_of (transactions_of journal)) n memory out
unfolding records_of lines_of flat_map
putting_all [] p h = rw (p.whole, append-nil) p.laid
putting_all (t ∷ later) p h = absurd (omega (arith, p.ends, next-length t later))

-- a record that is next
module _ {journal memory out : List ℕ} {end at n : ℕ} (t : List ℕ) (later : List (List ℕ)) (p : Putting journal memory out end at n (t ∷ later)) where
  -- it is a legal page
  next-page : (legal t ≡ true) × (is_page t ≡ true)
  unfolding all_legal all_pages
  next-page = (((and-eq-true_iff (legal t) (all_legal later)).0 p.good).0, ((and-eq-true_iff (is_page t) (all_pages later)).0 p.pages).0)

  -- it is found
  pub putting_found : (first second : ℕ) → first ≡ at + before CR (drop at journal) → second ≡ first + 1 + before CR (drop (first + 1) journal) → Found journal end at first second t
  unfolding records_of record_of
  putting_found first second e₁ e₂ =
      let (right, page) = next-page in
      page-found journal t (two_bytes (length t) ++ (records_of later ++ drop end journal)) end at first second right page (p.here ∙ simp append_assoc) (omega (arith, p.ends, next-length t later)) e₁ e₂

  -- its lines have room
  pub putting_room : n + (length (first_field t) + length (second_field t) + 20) ≤ length out
  putting_room =
      let (right, page) = next-page in
      omega (arith, p.kept, p.room, lines-length t right page, fields-length (first_field t) (second_field t), next-length t later)

  -- and are put
  pub putting_more : {first second n' : ℕ} {out' : List ℕ} → Found journal end at first second t → Adds n (lines_for t) n' out out' →
      Putting journal memory out' end (second + 1 + 2) n' later
  unfolding records_of lines_of flat_map all_legal all_pages
  putting_more {second = second} found adds =
      let (right, page) = next-page in
      let long = lines-length t right page in
      let size = record_length t in
      let fits : n + length (lines_for t) ≤ length out = omega (arith, p.kept, p.room, next-length t later) in
      let place : second + 1 + 2 ≡ at + length (record_of t) = omega (arith, found.size) in
      let behind = p.here ∙ append_assoc (record_of t) (records_of later) (drop end journal) in
      record {
        lines = p.lines ++ lines_for t;
        whole = p.whole ∙ sym (append_assoc p.lines (lines_for t) (lines_of later));
        laid = adds p.lines memory p.laid (sym p.kept);
        kept = adds_length adds fits ∙ p.kept;
        here = rw place (sym (drop-drop (length (record_of t)) at journal) ∙ ap (drop (length (record_of t))) behind ∙ drop-append_seam (record_of t) (records_of later ++ drop end journal));
        ends = omega (arith, p.ends, next-length t later, found.size);
        room = omega (arith, p.room, next-length t later, adds_ends adds fits);
        good = ((and-eq-true_iff (legal t) (all_legal later)).0 p.good).1;
        pages = ((and-eq-true_iff (is_page t) (all_pages later)).0 p.pages).1;
      }
