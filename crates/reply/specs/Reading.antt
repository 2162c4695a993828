-- What the reader answers, as a computation. `proofs/GrammarLaws` shows that it is the grammar.
use Rattle.std.specs.Prelude.{Bool, true, false, ◌&&◌, ◌||◌, List, [], ◌∷◌, ℕ, Option, Some, None, eqb, length, take, drop, if◌then◌else◌}
use Rattle.line.specs.Answer.{Outcome, done, refused}
use Rattle.line.specs.Character.{ACK, CR, EOT, ESC, LF, NAK, RS, printable}
use Rattle.line.specs.Parity.{parity_off}
use Rattle.line.specs.Test.{same}
use Rattle.line.specs.Text.{bytes_of}
use Rattle.reply.specs.declared.Meaning.{Meaning}
use Rattle.reply.specs.declared.Meaning.TheVariants.{IdRequest, Acceptance, Ack, Nak, Rs, Eot}

-- what was read: a meaning, or nothing recognized
abbrev pub Reply : Type 0
Reply = Option Meaning

-- what follows the whole lines at the start of a text. `rest` follows those met so far; `ended`: the last character was
-- their CR, which a LF may follow
unfoldable pub rest_after : List ℕ → Bool → List ℕ → List ℕ
rest_after rest ended [] = rest
rest_after rest ended (c ∷ text) =
    if printable c then rest_after rest false text
    else if eqb c CR then rest_after text true text
    else if ended && eqb c LF then rest_after text false text
    else rest

-- what follows the whole lines at the start of a text
abbrev pub after_lines : List ℕ → List ℕ
after_lines text = rest_after text false text

-- CR or CR LF, and nothing more
abbrev pub ends : List ℕ → Bool
ends text = same text (CR ∷ []) || same text (CR ∷ LF ∷ [])

-- the text begins so
abbrev pub begins : List ℕ → List ℕ → Bool
begins start text = same (take (length start) text) start

-- the code, then CR or CR LF, and nothing more
abbrev pub closes : List ℕ → List ℕ → Bool
closes code text = begins code text && ends (drop (length code) text)

-- nothing, CR or CR LF
abbrev pub finishes : List ℕ → Bool
finishes text = same text [] || ends text

-- `ID=`, an optional space, then nothing, CR or CR LF
unfoldable pub requests : List ℕ → Bool
requests text = begins (bytes_of "ID=") text && (finishes (drop 3 text) || begins (bytes_of " ") (drop 3 text) && finishes (drop 4 text))

-- ACK and its CR or CR LF, lines, then ESC `[p` and CR or CR LF
unfoldable pub accepts : List ℕ → Bool
accepts text = begins (ACK ∷ CR ∷ []) text && closes (ESC ∷ bytes_of "[p") (after_lines (drop 1 text))

-- what follows the lines: one code, or the rest of a logon acceptance
unfoldable pub code_read : List ℕ → Reply
code_read text =
    if closes (ACK ∷ []) text then Some Ack
    else if closes (NAK ∷ []) text then Some Nak
    else if closes (RS ∷ []) text then Some Rs
    else if closes (ESC ∷ EOT ∷ []) text then Some Eot
    else if accepts text then Some Acceptance
    else None

-- a text without parity
unfoldable pub text_read : List ℕ → Reply
text_read text = if requests text then Some IdRequest else code_read (after_lines text)

-- what is recognized where a text could be taken off the line
abbrev pub recognized_in : Outcome (List ℕ) → Reply
recognized_in (done text) = text_read text
recognized_in (refused n) = None

-- bytes off the line: over 256 of them, or one of odd parity, are not recognized (R-5.6)
unfoldable pub reply_read : List ℕ → Reply
reply_read bytes = recognized_in (parity_off bytes 256)
