-- The round trip: a journal's lines, taken in one after the other, bring its records in again, one for each three lines.
use mathlib.Core.Bool.{true, not, false≢true, and-eq-true_iff}
use mathlib.Core.List.{List, [], ◌∷◌, ◌++◌, map, flat_map, append_assoc, append-nil}
use Rattle.std.specs.Prelude.{None, Some}
use mathlib.Core.Path.{◌≡◌, refl, sym, ap, subst, ◌∙◌}
use Prim.Native.Nat.{ℕ, ◌+◌, ◌≤◌}
use native.Mathlib.Omega.{arith}
use borrow.Author.Tests.{eqb-true, le-leb, leb-true}
use lib.Dec.{eqb, leb, ltb}
use lib.ListN.{length, drop, length-append}
use Rattle.line.proofs.AllLaws.{all_weaken}
use Rattle.line.proofs.OutcomeLaws.{map-done, passed}
use Rattle.line.proofs.OverlayLaws.{overlay-start}
use Rattle.line.proofs.TransactionLaws.{legal-parts}
use Rattle.line.specs.Answer.{done, output}
use Rattle.line.specs.Character.{CR, byte, printable}
use Rattle.line.specs.Test.{all}
use Rattle.line.specs.Text.{bytes_of}
use Rattle.line.specs.Transaction.{legal}
use Rattle.journal.proofs.EncodingLaws.{decode-encode, encode-decode}
use Rattle.journal.proofs.RecordLaws.{records_length-snoc, encode-length}
use Rattle.journal.proofs.StorageLaws.{in_within, stored-buffer}
use Rattle.journal.specs.Encoding.{encode, records_of, all_legal, Journal}
use Rattle.journal.specs.Storage.{transactions, size_of, is_buffer, decode_in, stored_in}
use Rattle.journal.specs.Walk.{decode}
use Rattle.admission.proofs.ContentLaws.{printable-other}
use Rattle.admission.specs.Content.{number_from, first_field, field_count, listed, is_pager_id, is_page, content, admits}
use Rattle.central.specs.Step.{pagers_in_range}
use Rattle.snpp.specs.Command.{Command, page, message, send, SPACE, Says, pages, messages, sends}
use Rattle.snpp.specs.Driver.{no_return, Lines, none, next, Gateway, after, Takes, over, line, all_listed, Holding, RoundTrip}
use Rattle.export.specs.Export.{page_lines, second_field, lines_of, all_pages, pages_in, transactions_of, written_out}
use Rattle.snpp.specs.Reaction.{Answer, success, Entry, empty, Session, ongoing, Reaction, reacts, page_of}
use Rattle.snpp.specs.Step.{settings_in_range, stepped}
use Rattle.snpp.specs.declared.state.Settings.{Settings}
use Rattle.snpp.proofs.CommandLaws.{says_recognized, own_letters}
use Rattle.export.proofs.ExportLaws.{page-parts, pages-read}
use Rattle.snpp.proofs.OfferLaws.{pager-printable, page-length}
use Rattle.snpp.proofs.ReachedLaws.{step-reacts}
use Rattle.snpp.proofs.SessionLaws.{no_pager, a_pager, no_message, a_message, Sound, on}
use Rattle.snpp.proofs.StateLaws.{pager-short, eight_digits}

-- ── A text as lines ──

-- a line without CR is unique: it ends at the first CR
line_unique : (l k : List ℕ) {t u : List ℕ} → no_return l ≡ true → no_return k ≡ true → l ++ CR ∷ t ≡ k ++ CR ∷ u → (l ≡ k) × (t ≡ u)
unfolding all
line_unique [] [] h g e = (refl, cc)
line_unique [] (d ∷ k) h g e = let q : d ≡ CR = cc in absurd (false≢true (rw q at g))
line_unique (c ∷ l) [] h g e = let q : c ≡ CR = cc in absurd (false≢true (rw q at h))
line_unique (c ∷ l) (d ∷ k) h g e =
    let (p, q) = line_unique l k ((and-eq-true_iff (not (eqb c CR)) _).0 h).1 ((and-eq-true_iff (not (eqb d CR)) _).0 g).1 (ap (drop 1) e) in
    (cc, q)

-- so a text is cut into lines in one way only
pub lines_unique : {t u : List ℕ} {ls ks : List (List ℕ)} → Lines t ls → Lines u ks → t ≡ u → ls ≡ ks
lines_unique none none e = refl
lines_unique none (next h r) e = absurd (omega (arith, simp length-append at (ap length e)))
lines_unique (next h r) none e = absurd (omega (arith, simp length-append at (ap length e)))
lines_unique (next {line = l} h r) (next {line = k} g q) e =
    let (same, behind) = line_unique l k h g e in
    let rest = lines_unique r q (ap (drop 1) behind) in
    cc

-- the three lines of a page, their endings off
abbrev pub lines_alone : List ℕ → List ℕ → List (List ℕ)
lines_alone pager text = (bytes_of "PAGE" ++ SPACE ∷ pager) ∷ (bytes_of "MESS" ++ SPACE ∷ text) ∷ bytes_of "SEND" ∷ []

-- those of a journal's records
unfoldable pub lines_in : List (List ℕ) → List (List ℕ)
lines_in [] = []
lines_in (t ∷ ts) = lines_alone (first_field t) (second_field t) ++ lines_in ts

-- a printable text has no CR
no_return_lem : (text : List ℕ) → all printable text ≡ true → no_return text ≡ true
no_return_lem = all_weaken λ c h. rw (printable-other c h)

-- the lines of a page, and those behind them
page-cut : (pager text rest : List ℕ) (lines : List (List ℕ)) → all printable pager ≡ true → all printable text ≡ true → Lines rest lines → Lines (page_lines pager text ++ rest) (lines_alone pager text ++ lines)
unfolding all
page-cut pager text rest lines p m cut =
    let sent = next {line = bytes_of "SEND"} refl cut in
    let held = next {line = bytes_of "MESS" ++ SPACE ∷ text} (no_return_lem text m) sent in
    let paged = next {line = bytes_of "PAGE" ++ SPACE ∷ pager} (no_return_lem pager p) held in
    subst (λ t. Lines t (lines_alone pager text ++ lines)) (simp append_assoc) paged

-- a journal of pages is written out as its lines
lines_cut : (ts : List (List ℕ)) → all_legal ts ≡ true → all_pages ts ≡ true → Lines (lines_of ts) (lines_in ts)
unfolding lines_of lines_in flat_map all_legal all_pages
lines_cut [] h p = none
lines_cut (t ∷ ts) h p =
    let (good, legals) = (and-eq-true_iff (legal t) (all_legal ts)).0 h in
    let (is, others) = (and-eq-true_iff (is_page t) (all_pages ts)).0 p in
    let (_, pager, text) = page-parts t good is in
    page-cut (first_field t) (second_field t) (lines_of ts) (lines_in ts) (pager-printable (first_field t) pager) text (lines_cut ts legals others)

-- ── Journals that grow ──

-- a transaction has at most 2,000 characters
legal_most : (t : List ℕ) → legal t ≡ true → length t ≤ 2000
legal_most t h = leb-true (length t) 2000 ((and-eq-true_iff (leb 1 (length t)) (leb (length t) 2000)).0 (legal-parts t h).0).1

-- the records of two lists of transactions
records_append : (ts us : List (List ℕ)) → records_of (ts ++ us) ≡ records_of ts ++ records_of us
unfolding records_of
records_append [] us = refl
records_append (t ∷ ts) us = rw (records_append ts us, append_assoc)

-- the first of legal transactions are legal
legal_front : (ts us : List (List ℕ)) → all_legal (ts ++ us) ≡ true → all_legal ts ≡ true
unfolding all_legal
legal_front [] us h = refl
legal_front (t ∷ ts) us h =
    let (good, others) = (and-eq-true_iff (legal t) (all_legal (ts ++ us))).0 h in
    rw (good, legal_front ts us others)

-- the first records of a journal are a journal
journal_front : (ts us : List (List ℕ)) → Journal (ts ++ us) → Journal ts
journal_front ts us j =
    let small : length (records_of ts) + length (records_of us) ≤ 32000 = rw (records_append ts us, length-append) at j.small in
    let few : length ts + length us ≤ 64 = rw length-append at j.few in
    record { each = legal_front ts us j.each; few = omega arith; small = omega arith }

-- a journal with one record more had room for it
journal-room : (ts : List (List ℕ)) (t : List ℕ) → Journal (ts ++ t ∷ []) → transactions.room ts t ≡ true
journal-room ts t j =
    let few : length ts + 1 ≤ 64 = rw length-append at j.few in
    let small : length (records_of ts) + (length t + 2) ≤ 32000 = rw (records_length-snoc ts t) at j.small in
    rw (le-leb (length ts + 1) 64 few, le-leb (length (records_of ts) + (length t + 2)) 32000 small)

-- ── A gateway that takes lines in ──

-- the journal that its buffer holds is read
holding_read : {x : Session} {ts : List (List ℕ)} {g : Gateway} → Holding x ts g → Journal ts → decode_in g.buffer g.length ≡ done ts
unfolding is_buffer decode_in size_of
holding_read {ts} {g} h j =
    let whole = eqb-true (length g.buffer) 32004 h.buffer in
    let within : g.length ≤ length g.buffer = omega (arith, h.count, encode-length ts, j.small) in
    sym (in_within decode g.buffer g.length h.buffer within) ∙ ap decode h.journal ∙ decode-encode ts j

-- what is kept behind a step
after_holding : (g : Gateway) (y : Reaction (List (List ℕ))) → is_buffer g.buffer ≡ true → Journal y.journal → Holding y.next y.journal (after g y)
after_holding g y size j =
    record { state = refl; buffer = stored-buffer g.buffer y.journal size j; count = refl; journal = unfold stored_in size_of in overlay-start (encode y.journal) g.buffer (length (encode y.journal)) refl }

-- a gateway with such settings and pagers, and room for an answer
module _ (settings : Settings) (pagers : List ℕ) (room : ℕ) (longest : settings.longest ≡ 2000) (listing : pagers_in_range pagers ≡ true) (roomy : 6 ≤ room) where
  -- its settings are in range
  in_range_lem : settings_in_range settings ≡ true
  in_range_lem = rw longest

  -- a line that says a command
  line_taken : {x : Session} {ts : List (List ℕ)} {g : Gateway} (l : List ℕ) (c : Command) → Holding x ts g → Journal ts → Sound x → Says l c → length l ≤ 2048 →
      stepped g.state settings pagers g.buffer g.length l room ≡ done (reacts settings.longest pagers transactions x ts (Some c))
  line_taken {x} {ts} {g} l c h j sound says short =
      let step = step-reacts x settings pagers g.buffer g.length ts l room sound in_range_lem listing (holding_read h j) short roomy in
      rw h.state (rw (says_recognized says) at step)

  -- a page that is admitted: its three lines bring it in, and each is answered with 250
  page-taken : (ts : List (List ℕ)) (g : Gateway) (pager text : List ℕ) → Holding (ongoing empty) ts g → Journal ts → Journal (transactions.put ts (page_of pager text)) →
      is_pager_id pager ≡ true → all printable text ≡ true → length text ≤ 2000 → admits settings.longest pagers transactions ts (page_of pager text) ≡ true →
      (g' : Gateway) × Holding (ongoing empty) (transactions.put ts (page_of pager text)) g' ×
      ((ls : List (List ℕ)) (answers : List Answer) (g'' : Gateway) → Takes settings pagers room g' ls answers g'' → Takes settings pagers room g (lines_alone pager text ++ ls) (success ∷ success ∷ success ∷ answers) g'')
  unfolding reacts
  page-taken ts g pager text h j k p m short ok =
      let few = pager-short pager p in
      let e₁ : Entry = record { pager = Some pager; message = None } in
      let e₂ : Entry = record { pager = Some pager; message = Some text } in
      let y₁ : Reaction (List (List ℕ)) = record { next = ongoing e₁; journal = ts; answer = success } in
      let y₂ : Reaction (List (List ℕ)) = record { next = ongoing e₂; journal = ts; answer = success } in
      let y₃ : Reaction (List (List ℕ)) = record { next = ongoing empty; journal = transactions.put ts (page_of pager text); answer = success } in
      let g₁ = after g y₁ in
      let h₁ = after_holding g y₁ h.buffer j in
      let g₂ = after g₁ y₂ in
      let h₂ = after_holding g₁ y₂ h₁.buffer j in
      let g₃ = after g₂ y₃ in
      let h₃ = after_holding g₂ y₃ h₂.buffer k in
      let first = rw p at (line_taken (bytes_of "PAGE" ++ SPACE ∷ pager) (page pager) h j (on no_pager no_message) (pages pager (own_letters (bytes_of "PAGE"))) (omega (arith, few, eight_digits))) in
      let second = rw m at (line_taken (bytes_of "MESS" ++ SPACE ∷ text) (message text) h₁ j (on (a_pager p) no_message) (messages text (own_letters (bytes_of "MESS"))) (omega arith)) in
      let third = rw ok at (line_taken (bytes_of "SEND") send h₂ j (on (a_pager p) (a_message m (omega arith))) (sends (own_letters (bytes_of "SEND"))) (omega arith)) in
      (g₃, h₃, λ ls answers g'' rest. line first (line second (line third rest)))

  -- a record that is a page, whose pager is listed, is admitted where there is room
  admits-page : (ts : List (List ℕ)) (t : List ℕ) → legal t ≡ true → is_page t ≡ true → listed (number_from 0 (first_field t)) pagers ≡ true → transactions.room ts t ≡ true →
      admits settings.longest pagers transactions ts t ≡ true
  unfolding admits content is_page
  admits-page ts t good is named free =
      let (two, id) = (and-eq-true_iff (eqb (field_count t) 2) (is_pager_id (first_field t))).0 is in
      rw (le-leb (length t) settings.longest (omega (arith, legal_most t good)), two, id, named, free)

  -- the records of a journal, one after the other, behind those that are there
  records_taken : (rest ts : List (List ℕ)) (g : Gateway) → Holding (ongoing empty) ts g → Journal (ts ++ rest) → all_legal rest ≡ true → all_pages rest ≡ true → all_listed pagers rest ≡ true →
      (g' : Gateway) × Holding (ongoing empty) (ts ++ rest) g' × Takes settings pagers room g (lines_in rest) (map (λ _. success) (lines_in rest)) g'
  unfolding lines_in all_legal all_pages all_listed
  records_taken [] ts g h j l p q = (g, rw append-nil h, over)
  records_taken (t ∷ rest) ts g h j l p q =
      let (good, legals) = (and-eq-true_iff (legal t) (all_legal rest)).0 l in
      let (is, others) = (and-eq-true_iff (is_page t) (all_pages rest)).0 p in
      let (named, names) = (and-eq-true_iff (listed (number_from 0 (first_field t)) pagers) (all_listed pagers rest)).0 q in
      let (joined, pager, text) = page-parts t good is in
      let whole : Journal ((ts ++ t ∷ []) ++ rest) = rw append_assoc j in
      let k = journal_front (ts ++ t ∷ []) rest whole in
      let j₀ = journal_front ts (t ∷ rest) j in
      let ok = admits-page ts t good is named (journal-room ts t k) in
      let short : length (second_field t) ≤ 2000 = omega (arith, legal_most t good, page-length (first_field t) (second_field t), ap length joined) in
      let grown = subst (λ u. Journal (transactions.put ts u)) joined k in
      let fits = subst (λ u. admits settings.longest pagers transactions ts u ≡ true) joined ok in
      let (g₁, h₁, chain) = page-taken ts g (first_field t) (second_field t) h j₀ grown pager text short fits in
      let held = subst (λ u. Holding (ongoing empty) (transactions.put ts u) g₁) (sym joined) h₁ in
      let (g₂, h₂, taken) = records_taken rest (ts ++ t ∷ []) g₁ held whole legals others names in
      (g₂, rw append_assoc at h₂, chain (lines_in rest) (map (λ _. success) (lines_in rest)) g₂ taken)

-- what was written out is the lines of a journal of pages
written-parts : (journal text : List ℕ) (whole : ℕ) → all byte journal ≡ true → written_out journal whole ≡ done text →
    let ts = transactions_of journal in (journal ≡ encode ts) × Journal ts × (all_pages ts ≡ true) × (lines_of ts ≡ text)
unfolding written_out
written-parts journal text whole bytes e =
    let (_, made) = passed (ltb whole 33024) 1 _ _ e in
    let (ts, made_of, is) = map-done lines_of (pages_in journal) text made in
    let (read, every) = pages-read journal ts made_of in
    let same : transactions_of journal ≡ ts = ap output read in
    let (encoded, j) = encode-decode journal ts bytes read in
    rw same (encoded, j, every, is)

-- the round trip
pub round_trip : RoundTrip
round_trip journal text pagers settings g room bytes x =
    let ts = transactions_of journal in
    let (encoded, j, every, is) = written-parts journal text x.size bytes x.written in
    let (g', h', taken) = records_taken settings pagers room x.longest x.pagers-right x.roomy ts [] g x.empty-journal j j.each every x.pagers-listed in
    record { lines = lines_in ts; cut = rw is at (lines_cut ts j.each every); behind = g'; taken = taken; same = h'.journal ∙ sym encoded }
