-- Laws of `rest_after`: it splits off lines, and of a text that is lines and then something else it leaves exactly that.
use Rattle.std.specs.Prelude.{if◌then◌else◌}
use mathlib.Core.Bool.{Bool, true, false, ◌&&◌, and-eq-true_iff, and-false}
use mathlib.Core.List.{List, [], ◌∷◌, ◌++◌, append_assoc}
use mathlib.Core.Path.{◌≡◌, refl, ◌∙◌}
use Prim.Native.Nat.{ℕ}
use lib.Dec.{eqb}
use lib.Seq.{append_snoc}
use borrow.Author.Tests.{eqb-true}
use Rattle.line.specs.Character.{CR, LF, printable}
use Rattle.line.specs.Test.{all}
use Rattle.line.proofs.AllLaws.{all_append}
use Rattle.reply.specs.Grammar.{LineEnd, cr, crlf, Lines, none, line}
use Rattle.reply.specs.Reading.{rest_after, after_lines}

-- what was passed, at the start of a line or, where `ended`, behind its CR
data Passed : Bool → List ℕ → Type 0 where
  lines : {ended : Bool} {before : List ℕ} → Lines before → Passed ended before
  lf : {before : List ℕ} → Lines before → Passed true (LF ∷ before)

-- behind a CR: the end of a line, then lines
passed-end : {before : List ℕ} → Passed true before → (end rest : List ℕ) × LineEnd end × Lines rest × (CR ∷ before ≡ end ++ rest)
passed-end (lines {before} l) = (CR ∷ [], before, cr, l, refl)
passed-end (lf {before} l) = (CR ∷ LF ∷ [], before, crlf, l, refl)

-- printable text, its CR, and what was passed behind: lines
passed-line : (text : List ℕ) {before : List ℕ} → all printable text ≡ true → Passed true before → Lines (text ++ CR ∷ before)
passed-line text h p =
    let (end, rest, e, l, q) = passed-end p in
    rw (q, ← append_assoc) (line text h e l)

-- what was passed, with no CR before: lines
passed_lines : {before : List ℕ} → Passed false before → Lines before
passed_lines (lines l) = l

-- `rest_after` splits off lines, with `text` still to do and `begun` the printable text of the line at hand
abbrev Splits : List ℕ → Type 0
Splits text = (ended : Bool) (begun : List ℕ) → all printable begun ≡ true → (ended ≡ true → begun ≡ []) →
    (before : List ℕ) × Passed ended before × (begun ++ text ≡ before ++ rest_after (begun ++ text) ended text)

-- one character more
splits-next : (c : ℕ) (text : List ℕ) → Splits text → Splits (c ∷ text)
unfolding rest_after all
splits-next c text more ended begun h s = go (printable c) (eqb c CR) (ended && eqb c LF) refl refl refl
  where
    go : (p e l : Bool) → printable c ≡ p → eqb c CR ≡ e → (ended && eqb c LF) ≡ l →
        (before : List ℕ) × Passed ended before ×
        (begun ++ c ∷ text ≡
        before ++
        (if p then rest_after (begun ++ c ∷ text) false text
        else if e then rest_after text true text
        else if l then rest_after text false text
        else begun ++ c ∷ text))
    go true e l p _ _ =
        let (before, passed, q) = more false (begun ++ c ∷ []) (rw (all_append, h, p)) (λ n. cc) in
        (before, lines (passed_lines passed), rw append_snoc at q)
    go false true l _ e _ =
        let (before, passed, q) = more true [] refl (λ _. refl) in
        (begun ++ CR ∷ before, lines (passed-line begun h passed), rw (eqb-true c CR e, append_assoc, ← q))
    go false false true _ _ l =
        let (t, n) = (and-eq-true_iff ended (eqb c LF)).0 l in
        let (before, passed, q) = more false [] refl (λ n. cc) in
        (LF ∷ before, rw t (lf (passed_lines passed)), rw (s t, eqb-true c LF n, ← q))
    go false false false _ _ _ = ([], lines none, refl)

-- every text is split so
splits : (text : List ℕ) → Splits text
unfolding rest_after
splits [] ended begun h s = ([], lines none, refl)
splits (c ∷ text) ended begun h s = splits-next c text (splits text) ended begun h s

-- a text is lines, and what follows them
pub lines_split : (text : List ℕ) → (before : List ℕ) × Lines before × (text ≡ before ++ after_lines text)
unfolding all
lines_split text =
    let (before, passed, e) = splits text false [] refl (λ n. cc) in
    (before, passed_lines passed, e)

-- behind a CR: the end of its line, lines, and what follows them
pub end-split : (text : List ℕ) → (end between : List ℕ) × LineEnd end × Lines between × (CR ∷ text ≡ end ++ between ++ after_lines (CR ∷ text))
unfolding all rest_after
end-split text =
    let (before, passed, e) = splits text true [] refl (λ _. refl) in
    let (end, between, f, l, q) = passed-end passed in
    (end, between, f, l, rw (← q, ← e))

-- up to its CR a line is passed
passed-cr : (text rest start : List ℕ) (ended : Bool) → all printable text ≡ true → rest_after start ended (text ++ CR ∷ rest) ≡ rest_after rest true rest
unfolding rest_after all
passed-cr [] rest start ended h = refl
passed-cr (c ∷ text) rest start ended h =
    let (p, t) = (and-eq-true_iff (printable c) (all printable text)).0 h in
    rw (p, passed-cr text rest start false t)

-- lines are passed, up to what is no line
pub lines-passed : {before : List ℕ} (rest : List ℕ) → Lines before → ((ended : Bool) → rest_after rest ended rest ≡ rest) →
    (ended : Bool) → rest_after (before ++ rest) ended (before ++ rest) ≡ rest
unfolding rest_after
lines-passed rest none s ended = s ended
lines-passed rest (line text {rest = more} h cr l) s ended =
    simp append_assoc (passed-cr text (more ++ rest) _ ended h ∙ lines-passed rest l s true)
lines-passed rest (line text {rest = more} h crlf l) s ended =
    simp append_assoc (passed-cr text (LF ∷ more ++ rest) _ ended h ∙ lines-passed rest l s false)

-- what begins with no printable character, CR or LF is no line
pub no_line : (c : ℕ) (text : List ℕ) → printable c ≡ false → eqb c CR ≡ false → eqb c LF ≡ false → (ended : Bool) → rest_after (c ∷ text) ended (c ∷ text) ≡ c ∷ text
unfolding rest_after
no_line c text p e l ended = rw (p, e, l, and-false)
