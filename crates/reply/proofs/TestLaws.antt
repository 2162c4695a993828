-- What the reader's tests decide: what passes one is the part of the grammar that it is for, and each such part passes.
use mathlib.Core.Bool.{Bool, true, false, ◌&&◌, ◌||◌, and-eq-true_iff}
use mathlib.Core.List.{List, [], ◌∷◌, ◌++◌}
use mathlib.Core.Path.{◌≡◌, refl, sym}
use Prim.Native.Nat.{ℕ}
use lib.ListN.{length, take, drop, take-append-drop}
use lib.Seq.{drop-drop}
use Rattle.line.specs.Character.{ACK, CR, EOT, ESC, LF, NAK, RS}
use Rattle.line.specs.Test.{same}
use Rattle.line.specs.Text.{bytes_of}
use Rattle.line.proofs.SameLaws.{same_equal}
use Rattle.reply.specs.Grammar.{LineEnd, cr, crlf, Code, ack, nak, rs, eot, Space, none, one, Close, nothing, ended}
use Rattle.reply.specs.Reading.{rest_after, after_lines, ends, begins, closes, finishes, requests, accepts, code_read}
use Rattle.reply.specs.declared.Meaning.{Meaning}
use Rattle.std.specs.Prelude.{Some, None}
use Rattle.reply.proofs.LinesLaws.{no_line}

-- one of two tests passes
either : {A : Type 0} (s t : Bool) → (s ≡ true → A) → (t ≡ true → A) → s || t ≡ true → A
either true t f g h = f refl
either false t f g h = g h

-- what passes the test is the end of a line
pub ends-end : (text : List ℕ) → ends text ≡ true → LineEnd text
ends-end text = either _ _ (λ h. rw (same_equal text (CR ∷ []) h) cr) (λ h. rw (same_equal text (CR ∷ LF ∷ []) h) crlf)

-- what passes the test is nothing, or the end of a line
finishes_close : (text : List ℕ) → finishes text ≡ true → Close text
finishes_close text = either _ _ (λ h. rw (same_equal text [] h) nothing) (λ h. ended (ends-end text h))

-- a text that begins so is that beginning, and what follows
pub begins-split : (start text : List ℕ) → begins start text ≡ true → text ≡ start ++ drop (length start) text
begins-split start text h = rw (same_equal (take (length start) text) start h) at (sym (take-append-drop (length start) text))

-- what passes the test is the code and the end of a line
pub closes-split : (code text : List ℕ) → closes code text ≡ true → (end : List ℕ) × LineEnd end × (text ≡ code ++ end)
closes-split code text h =
    let (start, end) = (and-eq-true_iff (begins code text) _).0 h in
    (drop (length code) text, ends-end _ end, begins-split code text start)

-- what passes the test is an ID request
pub requests-split : (text : List ℕ) → requests text ≡ true → (space close : List ℕ) × Space space × Close close × (text ≡ bytes_of "ID=" ++ space ++ close)
unfolding requests
requests-split text h =
    let (start, more) = (and-eq-true_iff (begins (bytes_of "ID=") text) _).0 h in
    let whole = begins-split (bytes_of "ID=") text start in
    either _ _ (λ f. ([], drop 3 text, none, finishes_close _ f, whole)) (spaced whole) more
  where
    spaced : text ≡ bytes_of "ID=" ++ drop 3 text → begins (bytes_of " ") (drop 3 text) && finishes (drop 4 text) ≡ true →
        (space close : List ℕ) × Space space × Close close × (text ≡ bytes_of "ID=" ++ space ++ close)
    spaced whole h =
        let (space, f) = (and-eq-true_iff (begins (bytes_of " ") (drop 3 text)) _).0 h in
        (bytes_of " ", drop 4 text, one, finishes_close _ f, cc (whole, begins-split (bytes_of " ") (drop 3 text) space, drop-drop 1 3 text))

-- a code and the end of a line are recognized
pub code_read_lem : {m : Meaning} {code end : List ℕ} → Code m code → LineEnd end → code_read (code ++ end) ≡ Some m
unfolding code_read same
code_read_lem ack cr = refl
code_read_lem ack crlf = refl
code_read_lem nak cr = refl
code_read_lem nak crlf = refl
code_read_lem rs cr = refl
code_read_lem rs crlf = refl
code_read_lem eot cr = refl
code_read_lem eot crlf = refl

-- a code is no line
pub code_no_line : {m : Meaning} {code : List ℕ} (rest : List ℕ) → Code m code → (ended : Bool) → rest_after (code ++ rest) ended (code ++ rest) ≡ code ++ rest
code_no_line rest ack = no_line ACK rest refl refl refl
code_no_line rest nak = no_line NAK rest refl refl refl
code_no_line rest rs = no_line RS rest refl refl refl
code_no_line rest eot = no_line ESC (EOT ∷ rest) refl refl refl

-- an ID request passes its test, and no code follows its lines
pub request-read : {space close : List ℕ} → Space space → Close close →
    let text : List ℕ = bytes_of "ID=" ++ space ++ close in (requests text ≡ true) × (code_read (after_lines text) ≡ None)
unfolding requests code_read accepts same rest_after
request-read none nothing = (refl, refl)
request-read none (ended cr) = (refl, refl)
request-read none (ended crlf) = (refl, refl)
request-read one nothing = (refl, refl)
request-read one (ended cr) = (refl, refl)
request-read one (ended crlf) = (refl, refl)

-- the end of a line is followed by nothing
pub end_only : {end : List ℕ} → LineEnd end → after_lines end ≡ []
unfolding rest_after
end_only cr = refl
end_only crlf = refl

-- the rest of an acceptance passes its test
pub prompt_closes : {end : List ℕ} → LineEnd end → closes (ESC ∷ bytes_of "[p") (ESC ∷ bytes_of "[p" ++ end) ≡ true
unfolding same
prompt_closes cr = refl
prompt_closes crlf = refl

-- the end of a line begins with CR
pub end-begins : {end : List ℕ} (rest : List ℕ) → LineEnd end → begins (CR ∷ []) (end ++ rest) ≡ true
unfolding same
end-begins rest cr = refl
end-begins rest crlf = refl
