-- Laws of the search for the lines before the code: what one character more makes of it, and what it has found where they end.
use mathlib.Core.Bool.{Bool, true, false, ◌&&◌}
use mathlib.Core.List.{List, [], ◌∷◌, ◌++◌, map, map-append}
use mathlib.Core.Path.{◌≡◌, refl, sym, ◌∙◌}
use Prim.Native.Nat.{ℕ, suc, ◌+◌, ◌-◌, ◌≤◌, ◌<◌}
use native.Mathlib.Nat.{add-zero, zero-add}
use native.Mathlib.Numerals.{add-one}
use native.Mathlib.Omega.{arith}
use lib.Dec.{eqb}
use lib.ListN.{length, get_or, take, drop, length-take, length-drop, length-map, drop_of_length-le}
use lib.Seq.{drop-cons, get_or-drop, take-suc}
use Rattle.line.specs.Character.{CR, printable}
use Rattle.line.specs.Parity.{seven_bits}
use Rattle.line.specs.Test.{same}
use Rattle.reply.specs.Inner.{character_at, between, found, Passes, shown, to_show}
use Rattle.reply.specs.Remarks.{span, remarks, line_at, is_id, later_of, newer, of_line, before_code, lines_in, lines_shown}
use Rattle.std.specs.Prelude.{Option, Some, None}
use Rattle.std.specs.Option.{option_or}
use Rattle.reply.specs.declared.remarks.Span.{Span}
use Rattle.reply.specs.declared.remarks.Search.{Search}

-- two characters or more begin with `ID` where the first two are these
pub id_begins : (line : List ℕ) → 2 ≤ length line → is_id (map seven_bits line) ≡ (eqb (seven_bits (get_or line 0 0)) 0x49 && eqb (seven_bits (get_or line 1 0)) 0x44)
unfolding same
id_begins [] h = absurd (omega arith)
id_begins (x ∷ []) h = absurd (omega arith)
id_begins (x ∷ y ∷ line) h = both (eqb (seven_bits x) 0x49) (eqb (seven_bits y) 0x44)
  where
    both : (a b : Bool) → a && (b && true) ≡ a && b
    both false b = refl
    both true false = refl
    both true true = refl

-- bytes of a reply between two places in it
module _ (bytes : List ℕ) (begin i : ℕ) (from : begin ≤ i) where
  -- so many
  pub between-length : i ≤ length bytes → length (between bytes begin i) ≡ i - begin
  between-length h =
      let part = drop begin bytes in
      length-map (take (i - begin) part) seven_bits ∙ length-take (i - begin) part ∙ omega (arith, length-drop begin bytes)

  -- and one more
  between_next : i < length bytes → between bytes begin (i + 1) ≡ between bytes begin i ++ character_at bytes i ∷ []
  between_next h =
      let part = drop begin bytes in
      let one : i + 1 - begin ≡ suc (i - begin) = omega arith in
      let inside : i - begin < length part = omega (arith, length-drop begin bytes) in
      let place : begin + (i - begin) ≡ i = omega arith in
      rw (one, take-suc part (i - begin) 0 inside, map-append, get_or-drop begin bytes (i - begin) 0, place)

-- nothing stands between a place and itself
between_none : (bytes : List ℕ) (i : ℕ) → between bytes i i ≡ []
between_none bytes i = let none : i - i ≡ 0 = omega arith in rw none

-- a search at the character at i, with a line at hand that begins no later
module _ (s : Search) (bytes : List ℕ) (i : ℕ) (from : s.begin ≤ i) (here : i < length bytes) (rest : List ℕ) where
  -- a character of a line: the line goes on
  found_character : printable (character_at bytes i) ≡ true → found s bytes (i + 1) rest ≡ found s bytes i (character_at bytes i ∷ rest)
  unfolding lines_in
  found_character p = rw (p, between_next bytes s.begin i from here)

  -- where the next line begins
  next-begins : s.begin + length (between bytes s.begin i) + 1 ≡ i + 1
  next-begins = omega (arith, between-length bytes s.begin i from (omega arith))

  -- CR: the line at hand is one more, and another begins
  pub found-line : character_at bytes i ≡ CR →
      found (record { begin = i + 1; last = newer s.last (line_at s.begin (between bytes s.begin i)) }) bytes (i + 1) rest
      ≡ found s bytes i (character_at bytes i ∷ rest)
  unfolding lines_in
  found-line e = rw (e, next-begins, between_none)

  -- any other: another begins
  pub found-other : printable (character_at bytes i) ≡ false → eqb (character_at bytes i) CR ≡ false →
      found (record { begin = i + 1; last = s.last }) bytes (i + 1) rest ≡ found s bytes i (character_at bytes i ∷ rest)
  unfolding lines_in
  found-other p e = rw (p, e, next-begins, between_none)

-- the later of two is the one before only where there is no other
pub later_or : (before line : Option Span) → option_or line before ≡ later_of before line
later_or before (Some s) = refl
later_or before None = refl

-- ── All of it ──

-- at the start all is still to show
pub shows-all : (bytes : List ℕ) → lines_shown (map seven_bits bytes) ≡ to_show (record { begin = 0; last = None }) bytes 0
unfolding lines_shown
shows-all bytes = rw zero-add

-- a search that has come to i
module _ (s : Search) (bytes : List ℕ) (i : ℕ) where
  -- at the end of the bytes nothing is left
  pub shows-end : length bytes ≤ i → to_show s bytes i ≡ shown s i
  unfolding before_code lines_in
  shows-end h = rw (drop_of_length-le bytes h, add-zero)

  -- nor at a character that no line has
  pub shows_code : i < length bytes → of_line (character_at bytes i) ≡ false → to_show s bytes i ≡ shown s i
  unfolding before_code lines_in
  shows_code h e = rw (drop-cons bytes i 0 h, e, add-zero)

  -- past any other the search goes on
  pub shows-next : (r : Search) → i < length bytes → of_line (character_at bytes i) ≡ true → Passes s bytes i r → to_show s bytes i ≡ to_show r bytes (i + 1)
  unfolding before_code
  shows-next r h e passed =
      let c = character_at bytes i in
      let rest = before_code (map seven_bits (drop (i + 1) bytes)) in
      let whole : before_code (map seven_bits (drop i bytes)) ≡ c ∷ rest = rw (add-one, drop-cons bytes i 0 h, e) in
      let count : i + length (c ∷ rest) ≡ i + 1 + length rest = omega arith in
      rw whole (λ k. remarks (span 0 (count k)) (sym (passed.finds rest) k))

  -- and past a character of a line it is the same search
  pub shows_character : s.begin ≤ i → i < length bytes → printable (character_at bytes i) ≡ true → to_show s bytes i ≡ to_show s bytes (i + 1)
  shows_character from h p =
      shows-next s h (rw p) (record { begun = omega arith; finds = λ rest. found_character s bytes i from h rest p })
