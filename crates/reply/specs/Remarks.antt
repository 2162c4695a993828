-- Where the lines before the code stand in a reply, and the last of them that begins with `ID` (document 02, wish 5): read off
-- the grammar's derivation, and as a computation. `proofs/RemarksLaws` shows that they are the same.
use Rattle.std.specs.Prelude.{Bool, true, false, ◌||◌, ◌≡◌, ℕ, ◌+◌, ◌≤◌, Option, Some, None, eqb, length, if◌then◌else◌}
use mathlib.Core.List.{List, [], ◌∷◌, ◌++◌, foldl, map}
use Rattle.line.specs.Character.{CR, LF, printable}
use Rattle.line.specs.Parity.{seven_bits}
use Rattle.line.specs.Text.{bytes_of}
use Rattle.reply.specs.Grammar.{Lines, none, line, Means, reply, acceptance, request, Recognizes}
use Rattle.reply.specs.Reading.{Reply, begins, reply_read}
use Rattle.reply.specs.declared.Meaning.{Meaning}
use Rattle.reply.specs.declared.Meaning.TheVariants.{IdRequest, Acceptance, Ack, Nak, Rs, Eot}
use Rattle.reply.specs.declared.remarks.Remarks.{Remarks}
use Rattle.reply.specs.declared.remarks.Span.{Span}

-- a part of a reply, up to its end
abbrev pub span : ℕ → ℕ → Span
span begin end = record { begin = begin; end = end }

-- lines that stand there, and the ID line among them
abbrev pub remarks : Span → Option Span → Remarks
remarks lines id = record { lines = lines; id_line = id }

-- a line: where it begins, and its text, its ending left out
pub record Line : Type 0 where
  pub begin : ℕ
  pub text : List ℕ

-- the line with this text
abbrev pub line_at : ℕ → List ℕ → Line
line_at begin text = record { begin = begin; text = text }

-- ── The last that begins with `ID` ──

-- the line begins with `ID` (R-5.9)
abbrev pub is_id : List ℕ → Bool
is_id text = begins (bytes_of "ID") text

-- where a line stands, its ending left out
abbrev pub place_of : Line → Span
place_of l = span l.begin (l.begin + length l.text)

-- none of these lines begins so
pub data NoId : List Line → Type 0 where
  empty : NoId []
  other : {l : Line} {lines : List Line} → is_id l.text ≡ false → NoId lines → NoId (l ∷ lines)

-- the last of these lines that begins so: one behind which none does, or there is none (R-5.9)
pub data LastId : List Line → Option Span → Type 0 where
  last : (before : List Line) (l : Line) {after : List Line} → is_id l.text ≡ true → NoId after →
      LastId (before ++ l ∷ after) (Some (place_of l))
  missing : {lines : List Line} → NoId lines → LastId lines None

-- where a line stands, if it begins so
abbrev pub id_at : Line → Option Span
id_at l = if is_id l.text then Some (place_of l) else None

-- the later of two, where there is one
abbrev pub later_of : Option Span → Option Span → Option Span
later_of before (Some s) = Some s
later_of before None = before

-- one line more
abbrev pub newer : Option Span → Line → Option Span
newer before l = later_of before (id_at l)

-- the last of these lines, as a computation: `LastId` (R-5.9)
abbrev pub last_id : List Line → Option Span
last_id lines = foldl newer None lines

-- ── Off the derivation ──

-- the lines in their order, the first beginning at a place (R-5.8)
abbrev pub lines_from : {text : List ℕ} → ℕ → Lines text → List Line
lines_from begin none = []
lines_from begin (line text {end} h e more) = line_at begin text ∷ lines_from (begin + length (text ++ end)) more

-- lines that a reply begins with: where they stand, and the ID line among them (R-5.8, R-5.9)
abbrev pub as_remarks : {text : List ℕ} → Lines text → Remarks
as_remarks {text} lines = remarks (span 0 (length text)) (last_id (lines_from 0 lines))

-- the remarks in a text: the lines before the code, in an acceptance before its ACK; an ID request has none (R-5.8)
abbrev pub remarks_in : {m : Meaning} {text : List ℕ} → Means m text → Option Remarks
remarks_in (reply before c e) = Some (as_remarks before)
remarks_in (acceptance before e between e') = Some (as_remarks before)
remarks_in (request s c) = None

-- what bytes off the line show: the remarks in what they mean, and none where they mean nothing (R-5.8)
pub data Shows (bytes : List ℕ) : Option Remarks → Type 0 where
  recognized : {m : Meaning} (r : Recognizes m bytes) → Shows bytes (remarks_in r.means)
  unrecognized : ((m : Meaning) → Recognizes m bytes → ⊥) → Shows bytes None

-- the ID line lies within the lines (R-5.10)
abbrev pub IdWithin : Span → Option Span → Type 0
IdWithin lines (Some id) = (lines.begin ≤ id.begin) × (id.begin ≤ id.end) × (id.end ≤ lines.end)
IdWithin lines None = Unit {0}

-- and the lines within a reply of so many bytes (R-5.10)
abbrev pub Inside : ℕ → Option Remarks → Type 0
Inside n (Some r) = (r.lines.begin ≤ r.lines.end) × (r.lines.end ≤ n) × IdWithin r.lines r.id_line
Inside n None = Unit {0}

-- ── As a computation ──

-- a character of a line's ending (R-5.1)
abbrev pub of_ending : ℕ → Bool
of_ending c = eqb c CR || eqb c LF

-- a character of a line, or of its ending (R-5.1)
abbrev pub of_line : ℕ → Bool
of_line c = printable c || of_ending c

-- what stands before the first character that no line has: before the code
unfoldable pub before_code : List ℕ → List ℕ
before_code [] = []
before_code (c ∷ text) = if of_line c then c ∷ before_code text else []

-- the whole lines of such a text. The one at hand begins at `begin`, with `text` before the rest; CR ends it, and a LF may follow
unfoldable pub lines_in : ℕ → List ℕ → List ℕ → List Line
lines_in begin text [] = []
lines_in begin text (c ∷ rest) =
    if printable c then lines_in begin (text ++ c ∷ []) rest
    else if eqb c CR then line_at begin text ∷ lines_in (begin + length text + 1) [] rest
    else lines_in (begin + length text + 1) [] rest

-- where they stand, and the ID line among them
unfoldable pub lines_shown : List ℕ → Remarks
lines_shown text = remarks (span 0 (length (before_code text))) (last_id (lines_in 0 [] (before_code text)))

-- a reply of this meaning has lines before a code: all but an ID request
abbrev pub has_lines : Meaning → Bool
has_lines IdRequest = false
has_lines Acceptance = true
has_lines Ack = true
has_lines Nak = true
has_lines Rs = true
has_lines Eot = true

-- the remarks in bytes that were read so
abbrev pub remarks_of : Reply → List ℕ → Option Remarks
remarks_of (Some m) bytes = if has_lines m then Some (lines_shown (map seven_bits bytes)) else None
remarks_of None bytes = None

-- the remarks in bytes off the line (R-5.8)
abbrev pub remarks_read : List ℕ → Option Remarks
remarks_read bytes = remarks_of (reply_read bytes) bytes
