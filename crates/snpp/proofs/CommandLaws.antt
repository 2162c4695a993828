-- Laws of commands: the lines that say one are those that are recognized as it, and how the code reads a line's word.
use Rattle.std.specs.Prelude.{if◌then◌else◌, Option, None, Some}
use Rattle.std.specs.Char.{to_ascii_uppercase}
use mathlib.Core.Bool.{Bool, true, false, cond, ◌&&◌, and-false, and-eq-true_iff}
use mathlib.Core.List.{List, [], ◌∷◌, ◌++◌, map, append-nil}
use mathlib.Core.Path.{◌≡◌, refl, sym, ap, subst, ◌∙◌}
use Prim.Native.Nat.{ℕ, ◌+◌, ◌-◌, ◌≤◌, ◌<◌}
use native.Mathlib.Omega.{arith}
use borrow.Author.Tests.{ltb-true, ltb-false, eq-eqb, ne_eqb, eqb-true, leb-true, le-leb, lt-leb}
use lib.Dec.{ltb, eqb, leb}
use lib.ListN.{length, get_or, take, drop, length-map, length-append, take-append-drop, drop_of_length-le}
use lib.Seq.{take_at, drop_at, take_all}
use Rattle.line.proofs.SameLaws.{same_equal, same-lengths}
use Rattle.line.specs.Test.{all, same}
use Rattle.line.specs.Text.{bytes_of}
use Rattle.snpp.specs.Command.{Command, page, message, send, reset, quit, EitherCase, end, capital, small, SPACE, Says, pages, messages, sends, resets, quits, to_capital, bare_command, text_command, command_with, recognized}

-- no command is not a command
none-some : {c : Command} → ◌≡◌ {A = Option Command} None (Some c) → ⊥
none-some e = let z : ◌≡◌ {A = ℕ} 0 1 = cc in omega arith

-- ── The word of a line ──

-- a shorter line says nothing
pub recognized-short : (line : List ℕ) → length line < 4 → recognized line ≡ None
unfolding recognized
recognized-short line h =
    let word = map to_capital (take 4 line) in
    let long : length word ≡ length line = length-map (take 4 line) to_capital ∙ ap length (take_all 4 line (omega arith)) in
    let other : (w : List ℕ) → length w ≡ 4 → same word w ≡ false = λ w e. sym (same-lengths word w (λ f. omega arith)) in
    rw (drop_of_length-le line {i = 4} (omega arith), other (bytes_of "SEND") refl, other (bytes_of "RESE") refl, other (bytes_of "QUIT") refl)

-- the library's change to capitals is this one
capital_ascii : (c : ℕ) → to_ascii_uppercase c ≡ to_capital c
capital_ascii c = go (ltb c 97) (ltb c 123) refl refl
  where
    go : (b d : Bool) → ltb c 97 ≡ b → ltb c 123 ≡ d → cond b c (cond d (c - 32) c) ≡ to_capital c
    go true d e f =
        let low : c < 97 = ltb-true c 97 e in
        rw (lt-leb 0x61 c low)
    go false true e f =
        let low : 97 ≤ c = ltb-false c 97 e in
        let high : c < 123 = ltb-true c 123 f in
        rw (le-leb 0x61 c low, le-leb c 0x7A (omega arith))
    go false false e f =
        let high : 123 ≤ c = ltb-false c 123 f in
        rw (lt-leb c 0x7A (omega arith), and-false)

-- so that of a word is
capitals_ascii : (word : List ℕ) → map to_ascii_uppercase word ≡ map to_capital word
capitals_ascii [] = refl
capitals_ascii (c ∷ word) = rw (capital_ascii c, capitals_ascii word)

-- a line by its word in capitals and what stands behind that
pub recognized_cut : (line letters rest : List ℕ) → letters ≡ take 4 line → rest ≡ drop 4 line → recognized line ≡ command_with (map to_ascii_uppercase letters) rest
unfolding recognized
recognized_cut line letters rest e f = rw (e, f, capitals_ascii (take 4 line))

-- a word with nothing behind it
pub nothing_bare : (word rest : List ℕ) → length rest ≡ 0 → command_with word rest ≡ bare_command word
nothing_bare word [] e = refl
nothing_bare word (c ∷ rest) e = absurd (omega arith)

-- a word with a character that is no space behind it
pub joined_none : (word text : List ℕ) (c : ℕ) → (c ≡ SPACE → ⊥) → command_with word (c ∷ text) ≡ None
joined_none word text c e = rw (ne_eqb c SPACE e)

-- a word with a space and a text behind it
pub spaced_text : (word text : List ℕ) (c : ℕ) → c ≡ SPACE → command_with word (c ∷ text) ≡ text_command word text
spaced_text word text c e = rw (eq-eqb c SPACE e)

-- ── The lines that say a command ──

-- a capital letter
abbrev is_capital : ℕ → Bool
is_capital c = leb 0x41 c && leb c 0x5A

-- its code
capital-range : (c : ℕ) → is_capital c ≡ true → (0x41 ≤ c) × (c ≤ 0x5A)
capital-range c h =
    let (low, high) = (and-eq-true_iff (leb 0x41 c) (leb c 0x5A)).0 h in
    (leb-true 0x41 c low, leb-true c 0x5A high)

-- a word spells itself
pub own_letters : (word : List ℕ) → EitherCase word word
own_letters [] = end
own_letters (c ∷ word) = capital (own_letters word)

-- letters that spell a word are that word in capitals
spelled_capitals : {word letters : List ℕ} → EitherCase word letters → all is_capital word ≡ true → map to_capital letters ≡ word
unfolding all
spelled_capitals end h = refl
spelled_capitals (capital {c} {word} e) h =
    let (p, q) = (and-eq-true_iff (is_capital c) (all is_capital word)).0 h in
    let (low, high) = capital-range c p in
    rw (lt-leb 0x61 c (omega arith), spelled_capitals e q)
spelled_capitals (small {c} {word} e) h =
    let (p, q) = (and-eq-true_iff (is_capital c) (all is_capital word)).0 h in
    let (low, high) = capital-range c p in
    let back : c + 0x20 - 0x20 ≡ c = omega arith in
    rw (le-leb 0x61 (c + 0x20) (omega arith), le-leb (c + 0x20) 0x7A (omega arith), back, spelled_capitals e q)

-- a byte that is a capital letter once it is made one was that letter, or its small one
was_letter : (x c : ℕ) → is_capital c ≡ true → to_capital x ≡ c → {word letters : List ℕ} → EitherCase word letters → EitherCase (c ∷ word) (x ∷ letters)
was_letter x c h e {word} {letters} r = go (leb 0x61 x && leb x 0x7A) refl e
  where
    go : (b : Bool) → leb 0x61 x && leb x 0x7A ≡ b → (if b then x - 0x20 else x) ≡ c → EitherCase (c ∷ word) (x ∷ letters)
    go true t e =
        let low = leb-true 0x61 x ((and-eq-true_iff (leb 0x61 x) (leb x 0x7A)).0 t).0 in
        let code : x ≡ c + 0x20 = omega arith in
        rw code (small r)
    go false t e = rw e (capital r)

-- so bytes whose capitals are a word spell it
capitals_spell : (letters word : List ℕ) → all is_capital word ≡ true → map to_capital letters ≡ word → EitherCase word letters
unfolding all
capitals_spell [] [] h e = end
capitals_spell [] (c ∷ word) h e = absurd (omega (arith, ap length e))
capitals_spell (x ∷ letters) [] h e = absurd (omega (arith, ap length e))
capitals_spell (x ∷ letters) (c ∷ word) h e =
    let (p, q) = (and-eq-true_iff (is_capital c) (all is_capital word)).0 h in
    was_letter x c p (ap (λ l. get_or l 0 0) e) (capitals_spell letters word q (ap (drop 1) e))

-- a word of four capitals, spelled, is the word of a line that begins with it
spelled_recognized : (word : List ℕ) {letters : List ℕ} (rest : List ℕ) → length word ≡ 4 → all is_capital word ≡ true → EitherCase word letters →
    recognized (letters ++ rest) ≡ command_with word rest
unfolding recognized
spelled_recognized word {letters} rest l h e =
    let made = spelled_capitals e h in
    let long : length letters ≡ 4 = sym (length-map letters to_capital) ∙ ap length made ∙ l in
    rw (take_at letters rest 4 long, drop_at letters rest 4 long, made)

-- a line that says a command is recognized as it
pub says_recognized : {line : List ℕ} {c : Command} → Says line c → recognized line ≡ Some c
unfolding all same
says_recognized (pages text e) = spelled_recognized (bytes_of "PAGE") (SPACE ∷ text) refl refl e
says_recognized (messages text e) = spelled_recognized (bytes_of "MESS") (SPACE ∷ text) refl refl e
says_recognized (sends {word} e) = rw append-nil at (spelled_recognized (bytes_of "SEND") [] refl refl e)
says_recognized (resets {word} e) = rw append-nil at (spelled_recognized (bytes_of "RESE") [] refl refl e)
says_recognized (quits {word} e) = rw append-nil at (spelled_recognized (bytes_of "QUIT") [] refl refl e)

-- where the line's capitals are a word, it is spelled
word_spelled : (line word : List ℕ) → all is_capital word ≡ true → same (map to_capital (take 4 line)) word ≡ true → EitherCase word (take 4 line)
word_spelled line word h e = capitals_spell (take 4 line) word h (same_equal (map to_capital (take 4 line)) word e)

-- a line by its first four bytes and what stands behind them
module _ (line : List ℕ) (c : Command) where
  -- its word
  abbrev word : List ℕ
  word = map to_capital (take 4 line)

  -- nothing stands behind the word
  bare_says : (a b d : Bool) → same word (bytes_of "SEND") ≡ a → same word (bytes_of "RESE") ≡ b → same word (bytes_of "QUIT") ≡ d →
      (if a then Some send else if b then Some reset else if d then Some quit else None) ≡ Some c → Says (take 4 line) c
  unfolding all
  bare_says true b d f g h e = let is : send ≡ c = cc in subst (Says (take 4 line)) is (sends (word_spelled line (bytes_of "SEND") refl f))
  bare_says false true d f g h e = let is : reset ≡ c = cc in subst (Says (take 4 line)) is (resets (word_spelled line (bytes_of "RESE") refl g))
  bare_says false false true f g h e = let is : quit ≡ c = cc in subst (Says (take 4 line)) is (quits (word_spelled line (bytes_of "QUIT") refl h))
  bare_says false false false f g h e = absurd (none-some e)

  -- a space and a text do
  text_says : (text : List ℕ) (a b : Bool) → same word (bytes_of "PAGE") ≡ a → same word (bytes_of "MESS") ≡ b →
      (if a then Some (page text) else if b then Some (message text) else None) ≡ Some c → Says (take 4 line ++ SPACE ∷ text) c
  unfolding all
  text_says text true b f g e = let is : page text ≡ c = cc in subst (Says (take 4 line ++ SPACE ∷ text)) is (pages text (word_spelled line (bytes_of "PAGE") refl f))
  text_says text false true f g e = let is : message text ≡ c = cc in subst (Says (take 4 line ++ SPACE ∷ text)) is (messages text (word_spelled line (bytes_of "MESS") refl g))
  text_says text false false f g e = absurd (none-some e)

  -- a character and a text do
  behind_says : (x : ℕ) (text : List ℕ) (b : Bool) → eqb x SPACE ≡ b → (if b then text_command word text else None) ≡ Some c → Says (take 4 line ++ x ∷ text) c
  behind_says x text true f e = rw (eqb-true x SPACE f) (text_says text (same word (bytes_of "PAGE")) (same word (bytes_of "MESS")) refl refl e)
  behind_says x text false f e = absurd (none-some e)

  -- whatever does
  with_says : (rest : List ℕ) → command_with word rest ≡ Some c → Says (take 4 line ++ rest) c
  with_says [] e = rw append-nil (bare_says (same word (bytes_of "SEND")) (same word (bytes_of "RESE")) (same word (bytes_of "QUIT")) refl refl refl e)
  with_says (x ∷ text) e = behind_says x text (eqb x SPACE) refl e

  -- a line that is recognized as a command says it
  pub recognized_says : recognized line ≡ Some c → Says line c
  unfolding recognized
  recognized_says e = subst (λ l. Says l c) (take-append-drop 4 line) (with_says (drop 4 line) e)

-- ── A command with a text ──

-- letters that spell a word are as many
spelled_length : {word letters : List ℕ} → EitherCase word letters → length letters ≡ length word
spelled_length end = refl
spelled_length (capital e) = rw (spelled_length e)
spelled_length (small e) = rw (spelled_length e)

-- the text of a command: none but PAGE and MESS has one
abbrev pub text_of : Command → Option (List ℕ)
text_of (page text) = Some text
text_of (message text) = Some text
text_of send = None
text_of reset = None
text_of quit = None

-- a word and a space stand before it
pub text-behind : (line : List ℕ) (c : Command) (text : List ℕ) → recognized line ≡ Some c → text_of c ≡ Some text → length line ≡ 5 + length text
text-behind line c text e = go (recognized_says line c e)
  where
    go : {line : List ℕ} {c : Command} → Says line c → text_of c ≡ Some text → length line ≡ 5 + length text
    go (pages u e) h = let same : u ≡ text = cc in rw (length-append, ← same) (omega (arith, spelled_length e))
    go (messages u e) h = let same : u ≡ text = cc in rw (length-append, ← same) (omega (arith, spelled_length e))
    go (sends e) h = let z : ◌≡◌ {A = ℕ} 0 1 = cc in absurd (omega arith)
    go (resets e) h = let z : ◌≡◌ {A = ℕ} 0 1 = cc in absurd (omega arith)
    go (quits e) h = let z : ◌≡◌ {A = ℕ} 0 1 = cc in absurd (omega arith)
