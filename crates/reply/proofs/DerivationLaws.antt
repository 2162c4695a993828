-- The grammar is unambiguous: what a text means has one derivation, so what is read off a derivation is a function of the text.
-- No code begins with a character that a line may have, no text of a line holds CR, and no line begins with LF: so each part ends in one place.
use mathlib.Core.Bool.{Bool, true, false, false≢true, Bool-set, and-eq-true_iff}
use mathlib.Core.HLevel.{Σ_prop_path}
use mathlib.Core.List.{List, [], ◌∷◌, ◌++◌, append_assoc, append_cancel_left, is_set}
use mathlib.Core.Path.{◌≡◌, refl, sym, ap, subst, fst_path, snd_path, PathP, ◌∙◌}
use Prim.Native.Nat.{ℕ}
use native.Mathlib.Nat.{ℕ_set}
use native.Mathlib.Omega.{arith}
use lib.ListN.{length, length-append}
use Rattle.line.specs.Character.{ACK, CR, ESC, LF, printable}
use Rattle.line.specs.Test.{all}
use Rattle.line.specs.Text.{bytes_of}
use Rattle.reply.specs.Grammar.{LineEnd, cr, crlf, Lines, none, line, Code, ack, nak, rs, eot, Space, one, Close, nothing, ended, Means, reply, acceptance, request}
use Rattle.reply.specs.Grammar as Grammar
use Rattle.reply.specs.Remarks.{before_code}
use Rattle.reply.specs.declared.Meaning.{Meaning}
use Rattle.reply.specs.declared.Meaning.TheVariants.{IdRequest, Acceptance, Ack, Nak, Rs, Eot}
use Rattle.reply.proofs.RemarksLaws.{lines-before, code_before}

-- a text, and its derivation
abbrev Derived : (List ℕ → Type 0) → Type 0
Derived P = (text : List ℕ) × P text

-- two derivations are one, with what they derive
abbrev Same : (P : List ℕ → Type 0) {t u : List ℕ} → P t → P u → Type 0
Same P {t} {u} d e = Path (Derived P) (t, d) (u, e)

-- where both derive the same text, they are equal
derived_equal : (P : List ℕ → Type 0) {t : List ℕ} (d e : P t) → Same P d e → d ≡ e
derived_equal P {t} d e p = subst (λ (q : t ≡ t). PathP (λ i. P (q i)) d e) (is_set ℕ_set t t (fst_path p) refl) (snd_path p)

-- ── Parts ──

-- the end of a line
end_same : {t u : List ℕ} (e : LineEnd t) (f : LineEnd u) → t ≡ u → Same LineEnd e f
end_same cr cr q = refl
end_same cr crlf q = absurd (omega (arith, ap length q))
end_same crlf cr q = absurd (omega (arith, ap length q))
end_same crlf crlf q = refl

-- a code
code_same : {m : Meaning} {t u : List ℕ} (c : Code m t) (d : Code m u) → Same (Code m) c d
code_same ack ack = refl
code_same nak nak = refl
code_same rs rs = refl
code_same eot eot = refl

-- printable text up to a CR
text_same : (text text' rest rest' : List ℕ) → all printable text ≡ true → all printable text' ≡ true → text ++ CR ∷ rest ≡ text' ++ CR ∷ rest' → (text ≡ text') × (rest ≡ rest')
unfolding all
text_same [] [] rest rest' h h' q = (refl, cc)
text_same [] (c ∷ text') rest rest' h h' q =
    let (p, _) = (and-eq-true_iff (printable c) (all printable text')).0 h' in
    let e : c ≡ CR = cc in
    absurd (false≢true (rw e at p))
text_same (c ∷ text) [] rest rest' h h' q =
    let (p, _) = (and-eq-true_iff (printable c) (all printable text)).0 h in
    let e : c ≡ CR = cc in
    absurd (false≢true (rw e at p))
text_same (c ∷ text) (c' ∷ text') rest rest' h h' q =
    let (_, t) = (and-eq-true_iff (printable c) (all printable text)).0 h in
    let (_, t') = (and-eq-true_iff (printable c') (all printable text')).0 h' in
    let more : text ++ CR ∷ rest ≡ text' ++ CR ∷ rest' = cc in
    let (same, left) = text_same text text' rest rest' t t' more in
    (cc, left)

-- no line begins with LF
lines_no_lf : {t : List ℕ} (u : List ℕ) → Lines t → t ≡ LF ∷ u → ⊥
unfolding all
lines_no_lf u none q = absurd (omega (arith, ap length q))
lines_no_lf u (line [] h cr l) q = let e : ◌≡◌ {A = ℕ} CR LF = cc in omega arith
lines_no_lf u (line [] h crlf l) q = let e : ◌≡◌ {A = ℕ} CR LF = cc in omega arith
lines_no_lf u (line (c ∷ text) h e l) q =
    let (p, _) = (and-eq-true_iff (printable c) (all printable text)).0 h in
    let f : c ≡ LF = cc in
    false≢true (rw f at p)

-- the end of a line begins with CR
end-cr : {end : List ℕ} (rest : List ℕ) → LineEnd end → (more : List ℕ) × (end ++ rest ≡ CR ∷ more)
end-cr rest cr = (rest, refl)
end-cr rest crlf = (LF ∷ rest, refl)

-- the end of a line, and lines behind it
end-lines : {end end' t u : List ℕ} (e : LineEnd end) (e' : LineEnd end') → Lines t → Lines u → end ++ t ≡ end' ++ u → Same LineEnd e e' × (t ≡ u)
end-lines cr cr l k q = (refl, cc)
end-lines {u = u} cr crlf l k q = absurd (lines_no_lf u l cc)
end-lines {t = t} crlf cr l k q = absurd (lines_no_lf t k cc)
end-lines crlf crlf l k q = (refl, cc)

-- ── Lines ──

-- a line, and lines behind it, of their parts
abbrev joined : Derived (λ text. all printable text ≡ true) → Derived LineEnd → Derived Lines → Derived Lines
joined x y z = (x.0 ++ y.0 ++ z.0, line x.0 x.1 y.1 z.1)

-- a line is not nothing
line-some : (text : List ℕ) {end : List ℕ} (rest : List ℕ) → LineEnd end → text ++ end ++ rest ≡ [] → ⊥
line-some text rest cr q = omega (arith, simp length-append at (ap length q))
line-some text rest crlf q = omega (arith, simp length-append at (ap length q))

-- lines that are a text
lines_same : {t u : List ℕ} (l : Lines t) (k : Lines u) → t ≡ u → Same Lines l k
lines_same none none q = refl
lines_same none (line text {rest = rest} h e k) q = absurd (line-some text rest e (sym q))
lines_same (line text {rest = rest} h e l) none q = absurd (line-some text rest e q)
lines_same (line text {end = end} {rest = rest} h e l) (line text' {end = end'} {rest = rest'} h' e' k) q =
    let (more, s) = end-cr rest e in
    let (more', s') = end-cr rest' e' in
    let whole : text ++ CR ∷ more ≡ text' ++ CR ∷ more' = rw (← s, ← s') (simp append_assoc at q) in
    let (same, left) = text_same text text' more more' h h' whole in
    let texts : Same (λ t. all printable t ≡ true) h h' = Σ_prop_path (λ t. Bool-set (all printable t) true) same in
    let (ends, behind) = end-lines e e' l k cc in
    let lines = lines_same l k behind in
    λ i. joined (texts i) (ends i) (lines i)

-- ── ID requests ──

-- nothing, CR or CR LF
close_same : {t u : List ℕ} (c : Close t) (d : Close u) → t ≡ u → Same Close c d
close_same nothing nothing q = refl
close_same nothing (ended cr) q = absurd (omega (arith, ap length q))
close_same nothing (ended crlf) q = absurd (omega (arith, ap length q))
close_same (ended cr) nothing q = absurd (omega (arith, ap length q))
close_same (ended crlf) nothing q = absurd (omega (arith, ap length q))
close_same (ended e) (ended f) q = let ends = end_same e f q in λ i. ((ends i).0, ended (ends i).1)

-- which begins with no space
close_no_space : {t : List ℕ} (u : List ℕ) → Close t → t ≡ 0x20 ∷ u → ⊥
close_no_space u nothing q = absurd (omega (arith, ap length q))
close_no_space u (ended cr) q = let e : ◌≡◌ {A = ℕ} CR 0x20 = cc in omega arith
close_no_space u (ended crlf) q = let e : ◌≡◌ {A = ℕ} CR 0x20 = cc in omega arith

-- an optional space before it
space_same : {t u x y : List ℕ} (s : Space t) (s' : Space u) (c : Close x) (c' : Close y) → t ++ x ≡ u ++ y → Same Space s s' × Same Close c c'
space_same Grammar.none Grammar.none c c' q = (refl, close_same c c' q)
space_same {y = y} Grammar.none one c c' q = absurd (close_no_space y c q)
space_same {x = x} one Grammar.none c c' q = absurd (close_no_space x c' (sym q))
space_same one one c c' q = (refl, close_same c c' cc)

-- ── What a text means ──

-- one of the four codes says this
abbrev is_code : Meaning → Bool
is_code IdRequest = false
is_code Acceptance = false
is_code Ack = true
is_code Nak = true
is_code Rs = true
is_code Eot = true

-- as each does of its own
code_is : {m : Meaning} {code : List ℕ} → Code m code → is_code m ≡ true
code_is ack = refl
code_is nak = refl
code_is rs = refl
code_is eot = refl

-- a reply of its parts
abbrev replied : {m : Meaning} → Derived Lines → Derived (Code m) → Derived LineEnd → Derived (Means m)
replied x y z = (x.0 ++ y.0 ++ z.0, reply x.1 y.1 z.1)

-- an acceptance of its parts
abbrev accepted : Derived Lines → Derived LineEnd → Derived Lines → Derived LineEnd → Derived (Means Acceptance)
accepted x y z w = (x.0 ++ ACK ∷ [] ++ y.0 ++ z.0 ++ ESC ∷ bytes_of "[p" ++ w.0, acceptance x.1 y.1 z.1 w.1)

-- an ID request of its parts
abbrev requested : Derived Space → Derived Close → Derived (Means IdRequest)
requested x y = (bytes_of "ID=" ++ x.0 ++ y.0, request x.1 y.1)

-- a reply: first the lines before the code, then the code, then its end
reply-same : {m : Meaning} {before before' code code' end end' : List ℕ}
    (l : Lines before) (l' : Lines before') (c : Code m code) (c' : Code m code') (e : LineEnd end) (e' : LineEnd end') →
    before ++ code ++ end ≡ before' ++ code' ++ end' → Same (Means m) (reply l c e) (reply l' c' e')
reply-same {before = before} {before' = before'} {code = code} {code' = code'} {end = end} {end' = end'} l l' c c' e e' q =
    let whole : before ++ (code ++ end) ≡ before' ++ (code' ++ end') = simp append_assoc at q in
    let start : before ≡ before' = sym (code_before end l c) ∙ ap before_code whole ∙ code_before end' l' c' in
    let rest = append_cancel_left before (code ++ end) (code' ++ end') cc in
    let lines = lines_same l l' start in
    let codes = code_same c c' in
    let coded : code ≡ code' = fst_path codes in
    let ends = end_same e e' (append_cancel_left code end end' cc) in
    λ i. replied (lines i) (codes i) (ends i)

-- an acceptance: first the lines before the ACK, then its end and the lines behind it, then the prompt's end
acceptance-same : {before before' end end' between between' close close' : List ℕ}
    (l : Lines before) (l' : Lines before') (e : LineEnd end) (e' : LineEnd end') (b : Lines between) (b' : Lines between') (f : LineEnd close) (f' : LineEnd close') →
    before ++ ACK ∷ [] ++ end ++ between ++ ESC ∷ bytes_of "[p" ++ close ≡ before' ++ ACK ∷ [] ++ end' ++ between' ++ ESC ∷ bytes_of "[p" ++ close' →
    Same (Means Acceptance) (acceptance l e b f) (acceptance l' e' b' f')
unfolding all
acceptance-same {before} {before'} {end} {end'} {between} {between'} {close} {close'} l l' e e' b b' f f' q =
    let prompt : List ℕ = ESC ∷ bytes_of "[p" ++ close in
    let prompt' : List ℕ = ESC ∷ bytes_of "[p" ++ close' in
    let more = end ++ (between ++ prompt) in
    let more' = end' ++ (between' ++ prompt') in
    let whole : before ++ ACK ∷ more ≡ before' ++ ACK ∷ more' = simp append_assoc at q in
    let start : before ≡ before' = sym (lines-before ACK more l refl) ∙ ap before_code whole ∙ lines-before ACK more' l' refl in
    let acked = append_cancel_left before (ACK ∷ more) (ACK ∷ more') cc in
    let behind : end ++ between ++ prompt ≡ end' ++ between' ++ prompt' = let rest : more ≡ more' = cc in simp append_assoc rest in
    let middle : end ++ between ≡ end' ++ between' =
    sym (lines-before ESC (bytes_of "[p" ++ close) (line [] refl e b) refl) ∙ ap before_code behind ∙ lines-before ESC (bytes_of "[p" ++ close') (line [] refl e' b') refl in
    let (ends, inner) = end-lines e e' b b' middle in
    let prompts = append_cancel_left (end ++ between) prompt prompt' cc in
    let lines = lines_same l l' start in
    let betweens = lines_same b b' inner in
    let closes = end_same f f' cc in
    λ i. accepted (lines i) (ends i) (betweens i) (closes i)

-- all that a text can mean
means-same : {m : Meaning} {t u : List ℕ} (d : Means m t) (e : Means m u) → t ≡ u → Same (Means m) d e
means-same (reply l c e) (reply l' c' e') q = reply-same l l' c c' e e' q
means-same (reply l c e) (acceptance l' e' b' f') q = absurd (false≢true (code_is c))
means-same (reply l c e) (request s' c') q = absurd (false≢true (code_is c))
means-same (acceptance l e b f) (reply l' c' e') q = absurd (false≢true (code_is c'))
means-same (acceptance l e b f) (acceptance l' e' b' f') q = acceptance-same l l' e e' b b' f f' q
means-same (request s c) (reply l' c' e') q = absurd (false≢true (code_is c'))
means-same (request s c) (request s' c') q =
    let (spaces, closes) = space_same s s' c c' cc in
    λ i. requested (spaces i) (closes i)

-- what a text means has one derivation
pub one_derivation : {m : Meaning} {text : List ℕ} (d e : Means m text) → d ≡ e
one_derivation {m} d e = derived_equal (Means m) d e (means-same d e refl)
