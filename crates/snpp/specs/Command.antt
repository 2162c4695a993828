-- SNPP's commands as lines with their endings off: as a grammar, and as a computation that is proved to decide it.
use Rattle.std.specs.Prelude.{◌&&◌, List, [], ◌∷◌, ◌++◌, map, ℕ, ◌+◌, ◌-◌, eqb, leb, take, drop, if◌then◌else◌, Option, None, Some}
use Rattle.line.specs.Test.{same}
use Rattle.line.specs.Text.{bytes_of}

-- a command that is understood: PAGE and MESS with their text, SEND, RESE, QUIT (R-15.1)
pub data Command : Type 0 where
  page message : List ℕ → Command
  send reset quit : Command

-- a word in capitals, and letters that spell it, each as a capital or as a small letter (R-15.1)
pub data EitherCase : List ℕ → List ℕ → Type 0 where
  end : EitherCase [] []
  capital : {c : ℕ} {word letters : List ℕ} → EitherCase word letters → EitherCase (c ∷ word) (c ∷ letters)
  small : {c : ℕ} {word letters : List ℕ} → EitherCase word letters → EitherCase (c ∷ word) ((c + 0x20) ∷ letters)

-- the space between a command's word and its text
abbrev pub SPACE : ℕ
SPACE = 0x20

-- the lines that say a command; no others are understood (R-15.1)
pub data Says : List ℕ → Command → Type 0 where
  pages : {word : List ℕ} (text : List ℕ) → EitherCase (bytes_of "PAGE") word → Says (word ++ SPACE ∷ text) (page text)
  messages : {word : List ℕ} (text : List ℕ) → EitherCase (bytes_of "MESS") word → Says (word ++ SPACE ∷ text) (message text)
  sends : {word : List ℕ} → EitherCase (bytes_of "SEND") word → Says word send
  resets : {word : List ℕ} → EitherCase (bytes_of "RESE") word → Says word reset
  quits : {word : List ℕ} → EitherCase (bytes_of "QUIT") word → Says word quit

-- ── As a computation ──

-- a small letter as a capital; any other byte as it is
abbrev pub to_capital : ℕ → ℕ
to_capital c = if leb 0x61 c && leb c 0x7A then c - 0x20 else c

-- the command of a word with nothing behind it
abbrev pub bare_command : List ℕ → Option Command
bare_command word =
    if same word (bytes_of "SEND") then Some send
    else if same word (bytes_of "RESE") then Some reset
    else if same word (bytes_of "QUIT") then Some quit
    else None

-- the command of a word with a space and a text behind it
abbrev pub text_command : List ℕ → List ℕ → Option Command
text_command word text =
    if same word (bytes_of "PAGE") then Some (page text)
    else if same word (bytes_of "MESS") then Some (message text)
    else None

-- the command of a word with these bytes behind it
abbrev pub command_with : List ℕ → List ℕ → Option Command
command_with word [] = bare_command word
command_with word (c ∷ text) = if eqb c SPACE then text_command word text else None

-- the command that a line says; none where it is not understood: the laws `says_recognized` and `recognized_says` (R-15.1)
unfoldable pub recognized : List ℕ → Option Command
recognized line = command_with (map to_capital (take 4 line)) (drop 4 line)
