-- How the bytes that a wire brings make strings for the central's Block stage (document 02, wish 1: the collector).
-- Over bytes as they came; what they are is judged on their low seven bits.
use Rattle.std.specs.Prelude.{Bool, true, not, ◌&&◌, ◌||◌, List, [], ◌∷◌, ◌++◌, ◌≡◌, ℕ, ◌+◌, ◌-◌, ◌≤◌, min, leb, ltb, eqb, length, take, drop, get_or, Option, Some, None, if◌then◌else◌}
use Rattle.line.specs.Character.{STX, EOT}
use Rattle.line.specs.Parity.{seven_bits}
use Rattle.line.specs.Test.{all, before_first}
use Rattle.block.specs.Block.{ends}

-- a byte is this character, judged on its low seven bits (R-14.1)
abbrev pub is : ℕ → ℕ → Bool
is c b = eqb (seven_bits b) c

-- a byte with which a string begins: STX or EOT (R-14.1)
abbrev pub is_opening : ℕ → Bool
is_opening b = is STX b || is EOT b

-- a byte that is an ending: ETX, ETB or US (R-14.1)
abbrev pub is_ending : ℕ → Bool
is_ending b = ends (seven_bits b)

-- how long the string is that begins with these bytes: from EOT two characters; from STX up to four characters behind the
-- first ending, and at most 256 (STX, those before the ending, the ending and four are 6 more than those before it) (R-14.2)
unfoldable pub size : List ℕ → ℕ
size t = if is EOT (get_or t 0 0) then 2 else min 256 (before_first is_ending (drop 1 t) + 6)

-- what feeding comes to: the string that is handed over, or none yet; how many bytes were used; what is held behind them
pub record Feeding : Type 0 where
  pub string : Option (List ℕ)
  pub used : ℕ
  pub held : List ℕ

-- bytes that come behind what is held: all before the first STX or EOT is skipped. From there on, as soon as the string is as
-- long as it is to be, it is handed over, and bytes are used up to its end; until then all is held (R-14.3)
unfoldable pub fed : List ℕ → List ℕ → Feeding
fed held bytes =
    let stream = held ++ bytes in
    let skipped = before_first is_opening stream in
    let t = drop skipped stream in
    if leb (size t) (length t) then record { string = Some (take (size t) t); used = skipped + size t - length held; held = [] }
    else record { string = None; used = length bytes; held = t }

-- what can be held: nothing, or the start of a string, from STX or EOT on, that is shorter than the string is to be (R-14.4)
unfoldable pub unfinished : List ℕ → Bool
unfinished [] = true
unfinished (b ∷ bs) = is_opening b && ltb (length (b ∷ bs)) (size (b ∷ bs))

-- the strings that are handed over before the driver says that nothing more came, and no others: the laws `whole-fed` and
-- `fed-whole` (R-14.5)
pub data Whole : List ℕ → Type 0 where
  -- EOT and one character more, whatever it is
  goodbye : (e c : ℕ) → is EOT e ≡ true → Whole (e ∷ c ∷ [])
  -- STX, what stands before the first ending, the ending, and four characters: 256 at most
  block : (s e : ℕ) (before behind : List ℕ) → is STX s ≡ true → all (λ b. not (is_ending b)) before ≡ true → is_ending e ≡ true →
      length behind ≡ 4 → length before ≤ 250 → Whole (s ∷ before ++ e ∷ behind)
  -- 256 characters from STX on, the first ending too late for four to follow it, or none
  full : (s : ℕ) (rest : List ℕ) → is STX s ≡ true → length rest ≡ 255 → all (λ b. not (is_ending b)) (take 251 rest) ≡ true →
      Whole (s ∷ rest)
