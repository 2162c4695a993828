-- The remarks are the grammar's: the computation shows of every reply where the lines of its derivation stand; they lie within it.
use Rattle.std.specs.Prelude.{Option, Some, None, if◌then◌else◌}
use mathlib.Core.Bool.{Bool, true, false, false≢true, and-eq-true_iff}
use mathlib.Core.List.{List, [], ◌∷◌, ◌++◌, foldl, foldl-append, map, append_assoc, append-nil}
use mathlib.Core.Path.{◌≡◌, refl, sym, ap, ◌∙◌}
use Prim.Native.Nat.{ℕ, ◌+◌, ◌≤◌}
use native.Mathlib.Omega.{arith}
use lib.Count.{ones}
use lib.ListN.{length, length-append, length-map}
use lib.Seq.{append_snoc}
use Rattle.line.specs.Character.{ACK, CR, EOT, ESC, LF, NAK, RS, printable}
use Rattle.line.specs.Parity.{with_parity, parity_off}
use Rattle.line.specs.Test.{all, same}
use Rattle.line.specs.Text.{bytes_of}
use Rattle.reply.specs.Grammar.{cr, crlf, Lines, none, line, Code, ack, nak, rs, eot, Means, reply, acceptance, request, Recognizes}
use Rattle.reply.specs.Reading.{Reply, rest_after, requests, accepts, code_read, text_read, reply_read}
use Rattle.reply.specs.Remarks.{span, remarks, Line, line_at, is_id, place_of, NoId, empty, other, LastId, last, missing, later_of, newer, last_id, lines_from, as_remarks, remarks_in, Shows, unrecognized, IdWithin, Inside, of_line, before_code, lines_in, lines_shown, has_lines, remarks_of, remarks_read}
use Rattle.reply.specs.Remarks as Spec
use Rattle.reply.specs.declared.Meaning.{Meaning}
use Rattle.reply.specs.declared.remarks.Remarks.{Remarks}
use Rattle.reply.specs.declared.remarks.Span.{Span}
use Rattle.reply.proofs.GrammarLaws.{recognized, recognizes}

-- ── The computation finds the lines ──

-- printable text belongs to lines, whatever follows
text-before : (text rest : List ℕ) → all printable text ≡ true → before_code (text ++ rest) ≡ text ++ before_code rest
unfolding before_code all
text-before [] rest h = refl
text-before (c ∷ text) rest h =
    let (p, t) = (and-eq-true_iff (printable c) (all printable text)).0 h in
    rw (p, text-before text rest t)

-- lines, then a character that no line has: the lines stand before it
pub lines-before : {before : List ℕ} (c : ℕ) (rest : List ℕ) → Lines before → of_line c ≡ false → before_code (before ++ c ∷ rest) ≡ before
unfolding before_code
lines-before c rest none e = rw e
lines-before c rest (line text {rest = more} h cr l) e = simp append_assoc (rw (text-before text (CR ∷ more ++ c ∷ rest) h, lines-before c rest l e))
lines-before c rest (line text {rest = more} h crlf l) e = simp append_assoc (rw (text-before text (CR ∷ LF ∷ more ++ c ∷ rest) h, lines-before c rest l e))

-- so before a code
pub code_before : {m : Meaning} {before code : List ℕ} (rest : List ℕ) → Lines before → Code m code → before_code (before ++ (code ++ rest)) ≡ before
code_before rest l ack = lines-before ACK rest l refl
code_before rest l nak = lines-before NAK rest l refl
code_before rest l rs = lines-before RS rest l refl
code_before rest l eot = lines-before ESC (EOT ∷ rest) l refl

-- up to its CR a line is text
text-line : (begin : ℕ) (begun text rest : List ℕ) → all printable text ≡ true →
    lines_in begin begun (text ++ CR ∷ rest) ≡ line_at begin (begun ++ text) ∷ lines_in (begin + length (begun ++ text) + 1) [] rest
unfolding lines_in all
text-line begin begun [] rest h = rw append-nil
text-line begin begun (c ∷ text) rest h =
    let (p, t) = (and-eq-true_iff (printable c) (all printable text)).0 h in
    rw p (rw append_snoc at (text-line begin (begun ++ c ∷ []) text rest t))

-- the lines found are those of the derivation
lines-found : {text : List ℕ} (begin : ℕ) (l : Lines text) → lines_in begin [] text ≡ lines_from begin l
unfolding lines_in
lines-found begin none = refl
lines-found begin (line text {rest = more} h cr l) =
    let end : List ℕ = CR ∷ [] in
    let next : begin + length text + 1 ≡ begin + length (text ++ end) = omega (arith, length-append text end) in
    rw (append_assoc text end more, text-line begin [] text more h, next, lines-found (begin + length (text ++ end)) l)
lines-found begin (line text {rest = more} h crlf l) =
    let end : List ℕ = CR ∷ LF ∷ [] in
    let next : begin + length text + 1 + 0 + 1 ≡ begin + length (text ++ end) = omega (arith, length-append text end) in
    rw (append_assoc text end more, text-line begin [] text (LF ∷ more) h, next, lines-found (begin + length (text ++ end)) l)

-- lines that stand before the code are shown
lines-shown : {before : List ℕ} (text : List ℕ) (l : Lines before) → before_code text ≡ before → lines_shown text ≡ as_remarks l
unfolding lines_shown
lines-shown text l e = rw (e, lines-found 0 l)

-- ── The computation is the grammar's ──

-- a reply with a code has lines
code_lines : {m : Meaning} {code : List ℕ} → Code m code → has_lines m ≡ true
code_lines ack = refl
code_lines nak = refl
code_lines rs = refl
code_lines eot = refl

-- of every text that means something
means-shown : {m : Meaning} {text : List ℕ} (d : Means m text) → (if has_lines m then Some (lines_shown text) else None) ≡ remarks_in d
means-shown (reply {end = end} l c e) = rw (code_lines c) (ap Some (lines-shown _ l (rw append_assoc (code_before end l c))))
means-shown (acceptance {end = end} {between = between} {end' = end'} l e b e') =
    let prompt : List ℕ = ESC ∷ bytes_of "[p" ++ end' in
    ap Some (lines-shown _ l (simp append_assoc (lines-before ACK (end ++ (between ++ prompt)) l refl)))
means-shown (request s c) = refl

-- off the line
recognized-shown : {m : Meaning} {bytes : List ℕ} (r : Recognizes m bytes) → remarks_read bytes ≡ remarks_in r.means
recognized-shown r = rw (recognizes r) (means-shown r.means)

-- so bytes show what is computed
pub shows : (bytes : List ℕ) → Shows bytes (remarks_read bytes)
shows bytes = go (reply_read bytes) refl
  where
    go : (read : Reply) → reply_read bytes ≡ read → Shows bytes (remarks_read bytes)
    go (Some m) e = let r = recognized bytes m e in rw (recognized-shown r) (Spec.recognized r)
    go None e = rw e (unrecognized (λ m r. let n = recognizes r in absurd (false≢true cc)))

-- and nothing else: the remarks are a function of the reply
pub shown_only : {bytes : List ℕ} {x : Option Remarks} → Shows bytes x → x ≡ remarks_read bytes
shown_only (Spec.recognized r) = sym (recognized-shown r)
shown_only {bytes} (unrecognized means) = go (reply_read bytes) refl
  where
    go : (read : Reply) → reply_read bytes ≡ read → None ≡ remarks_of read bytes
    go (Some m) e = absurd (means m (recognized bytes m e))
    go None e = refl

-- ── The last line that begins with `ID` ──

-- lines that do not begin so change nothing
no_id : (a : Option Span) {lines : List Line} → NoId lines → foldl newer a lines ≡ a
no_id a empty = refl
no_id a (other e n) = rw e (no_id a n)

-- nothing but the last is computed
pub last_only : {lines : List Line} {x : Option Span} → LastId lines x → x ≡ last_id lines
last_only (last before l {after} e n) = sym (foldl-append newer None before (l ∷ after) ∙ rw e (no_id (Some (place_of l)) n))
last_only (missing n) = sym (no_id None n)

-- one line more that does not begin so
no_id_next : {lines : List Line} (l : Line) → is_id l.text ≡ false → NoId lines → NoId (lines ++ l ∷ [])
no_id_next l e empty = other e empty
no_id_next l e (other f n) = other f (no_id_next l e n)

-- the last of lines and one line more
last-next : {lines : List Line} {x : Option Span} (l : Line) → LastId lines x → LastId (lines ++ l ∷ []) (newer x l)
last-next l d = go (is_id l.text) refl d
  where
    go : {lines : List Line} {x : Option Span} (b : Bool) → is_id l.text ≡ b → LastId lines x → LastId (lines ++ l ∷ []) (later_of x (if b then Some (place_of l) else None))
    go {lines} true e d = last lines l e empty
    go false e (last before k f n) = rw append_assoc (last before k f (no_id_next l e n))
    go false e (missing n) = missing (no_id_next l e n)

-- and of lines and more
last-behind : {lines : List Line} {x : Option Span} (more : List Line) → LastId lines x → LastId (lines ++ more) (foldl newer x more)
last-behind [] d = rw append-nil d
last-behind {lines = lines} (l ∷ more) d = rw append_assoc at (last-behind {lines = lines ++ l ∷ []} more (last-next l d))

-- so the last is computed
pub last_found : (lines : List Line) → LastId lines (last_id lines)
last_found lines = last-behind lines (missing empty)

-- ── Within the reply ──

-- a line more: its place lies where the line does
newer-within : (a : Option Span) (lines : Span) (l : Line) → lines.begin ≤ l.begin → l.begin + length l.text ≤ lines.end → IdWithin lines a → IdWithin lines (newer a l)
newer-within a lines l from to h = go (is_id l.text)
  where
    go : (b : Bool) → IdWithin lines (later_of a (if b then Some (place_of l) else None))
    go true = (from, omega arith, to)
    go false = h

-- so does that of the last one
last_within : {text : List ℕ} (a : Option Span) (lines : Span) (begin : ℕ) (l : Lines text) → lines.begin ≤ begin → begin + length text ≤ lines.end → IdWithin lines a →
    IdWithin lines (foldl newer a (lines_from begin l))
last_within a lines begin none from to h = h
last_within a lines begin (line text {end} {rest} p e l) from to h =
    let whole = simp length-append at to in
    let here = length-append text end in
    last_within (newer a (line_at begin text)) lines (begin + length (text ++ end)) l (omega arith) (omega arith) (newer-within a lines (line_at begin text) from (omega arith) h)

-- lines at the start of a text
lines-inside : (before rest : List ℕ) (l : Lines before) → Inside (length (before ++ rest)) (Some (as_remarks l))
lines-inside before rest l =
    let fits = length-append before rest in
    (omega arith, omega arith, last_within None (span 0 (length before)) 0 l (omega arith) (omega arith) tt)

-- of every text that means something
means-inside : {m : Meaning} {text : List ℕ} (d : Means m text) → Inside (length text) (remarks_in d)
means-inside (reply {before = before} {code = code} {end = end} l c e) = rw append_assoc (lines-inside before (code ++ end) l)
means-inside (acceptance {before = before} {end = end} {between = between} {end' = end'} l e b e') =
    let prompt : List ℕ = ESC ∷ bytes_of "[p" ++ end' in
    simp append_assoc (lines-inside before (ACK ∷ (end ++ (between ++ prompt))) l)
means-inside (request s c) = tt

-- the driver's law: the ID line lies within the lines, and the lines within the reply
pub remarks_inside : (bytes : List ℕ) → Inside (length bytes) (remarks_read bytes)
remarks_inside bytes = go (shows bytes)
  where
    go : {x : Option Remarks} → Shows bytes x → Inside (length bytes) x
    go (Spec.recognized r) = rw length-map at (means-inside r.means)
    go (unrecognized means) = tt

-- ── Replies as they come ──

-- a text off the line shows this
abbrev Showing : List ℕ → Option Remarks → Type 0
Showing text x = remarks_read (map with_parity text) ≡ x

-- where the lines of some replies stand
pub record SomeShown : Type 0 where
  -- document 02's line, before NAK
  pub one_line : Showing (bytes_of "ID123 not known" ++ CR ∷ NAK ∷ CR ∷ []) (Some (remarks (span 0 16) (Some (span 0 15))))
  -- of two such lines the last, whatever ends them
  pub last_line : Showing (bytes_of "ID1" ++ CR ∷ LF ∷ bytes_of "ID" ++ CR ∷ bytes_of "OK" ++ CR ∷ RS ∷ CR ∷ []) (Some (remarks (span 0 11) (Some (span 5 7))))
  -- `ID` in the middle of a line is none
  pub middle : Showing (bytes_of "no ID1" ++ CR ∷ ACK ∷ CR ∷ []) (Some (remarks (span 0 7) None))
  -- in an acceptance, no line behind the ACK
  pub behind-ack : Showing (CR ∷ ACK ∷ CR ∷ bytes_of "ID1" ++ CR ∷ ESC ∷ bytes_of "[p" ++ CR ∷ []) (Some (remarks (span 0 1) None))
  -- no lines are not no places
  pub no_lines : Showing (ESC ∷ EOT ∷ CR ∷ []) (Some (remarks (span 0 0) None))
  pub no_places : Showing (bytes_of "ID=" ++ CR ∷ []) None

-- by computation
pub some-shown : SomeShown
unfolding reply_read parity_off all text_read requests code_read accepts same rest_after ones lines_shown before_code lines_in
some-shown = record { one_line = refl; last_line = refl; middle = refl; behind-ack = refl; no_lines = refl; no_places = refl }
