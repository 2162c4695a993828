-- Laws of even parity: what is set has an even number of ones, setting and taking off undo each other, and a flipped bit 7 is refused.
use Rattle.std.specs.Prelude.{if◌then◌else◌}
use mathlib.Core.Bool.{Bool, true, false, not, ◌&&◌, and-eq-true_iff}
use mathlib.Core.List.{List, map}
use mathlib.Core.Path.{◌≡◌, refl, ap, ◌∙◌}
use Prim.Native.Nat.{ℕ, zero, suc, ◌+◌, ◌-◌, ◌*◌, ◌/◌, ◌%◌, ◌≤◌, ◌<◌}
use native.Mathlib.Omega.{arith}
use borrow.Author.Tests.{ltb-true, eqb-true, lt-ltb, le-ltb, eq-eqb, ne_eqb}
use lib.Count.{ones, ones_cat}
use lib.Dec.{ltb}
use lib.ListN.{length, get_or, set, length-map, length-set}
use lib.Seq.{get_or-set_same}
use Rattle.line.specs.Answer.{done, refused}
use Rattle.line.specs.Character.{byte, seven}
use Rattle.line.specs.Parity.{even, with_parity, seven_bits, flip_top, parity_on, parity_off}
use Rattle.line.specs.Test.{all}
use Rattle.line.proofs.AllLaws.{all-at, all-fails, all_both, all_map, map_back}

-- a digit is the number of its ones
ones_digit : (d : ℕ) → d < 2 → ones d ≡ d
unfolding ones
ones_digit zero h = refl
ones_digit (suc zero) h = refl
ones_digit (suc (suc d)) h = absurd (omega arith)

-- bit 7 and the 7 bits below it are counted apart
ones_top : (b d r : ℕ) → b ≡ d * 0x80 + r → d < 2 → r < 0x80 → ones b ≡ d + ones r
ones_top b d r e h k = ap ones e ∙ ones_cat 7 d r k ∙ rw (ones_digit d h)

-- what is set is a byte
pub with_byte : (c : ℕ) → seven c ≡ true → with_parity c < 0x100
with_byte c h = omega (arith, ltb-true)

-- what is set has an even number of ones
pub with_even : (c : ℕ) → seven c ≡ true → even (with_parity c) ≡ true
with_even c h =
    let count = ones_top (with_parity c) (ones c % 2) c (omega arith) (omega arith) (ltb-true c 0x80 h) in
    eq-eqb (ones (with_parity c) % 2) 0 (omega arith)

-- every byte set has an even number of ones
pub all_with_even : (text : List ℕ) → all seven text ≡ true → all even (map with_parity text) ≡ true
all_with_even = all_map even with_parity with_even

-- the 7-bit value of what is set is the character
pub without_with : (c : ℕ) → seven c ≡ true → seven_bits (with_parity c) ≡ c
without_with c h = omega (arith, ltb-true)

-- the 7-bit values of what is set are the characters
pub all-without_with : (text : List ℕ) → all seven text ≡ true → map seven_bits (map with_parity text) ≡ text
all-without_with = map_back with_parity seven_bits without_with

-- bit 7 of an even byte is set where the ones below it are odd
even_top : (b : ℕ) → b < 0x100 → even b ≡ true → b / 0x80 ≡ ones (seven_bits b) % 2
even_top b h e =
    let count = ones_top b (b / 0x80) (seven_bits b) (omega arith) (omega arith) (omega arith) in
    omega (arith, eqb-true)

-- an even byte is its 7-bit value with parity
pub with_without : (b : ℕ) → b < 0x100 → even b ≡ true → with_parity (seven_bits b) ≡ b
with_without b h e = omega (arith, even_top b h e)

-- even bytes are their 7-bit values with parity
pub all_with_without : (line : List ℕ) → all byte line ≡ true → all even line ≡ true → map with_parity (map seven_bits line) ≡ line
all_with_without line h e = map_back seven_bits with_parity one line (all_both byte even line h e)
  where
    one : (b : ℕ) → byte b && even b ≡ true → with_parity (seven_bits b) ≡ b
    one b h =
        let (k, e) = (and-eq-true_iff (byte b) (even b)).0 h in
        with_without b (ltb-true b 0x100 k) e

-- what is done, in the shape that `parity_on` and `parity_off` have: all passed, and it is what they make
when_done : (short pass : Bool) {made out : List ℕ} → (if short then refused 1 else if not pass then refused 3 else done made) ≡ done out → (pass ≡ true) × (out ≡ made)
when_done true pass e = (cc, cc)
when_done false true e = (refl, cc)
when_done false false e = (cc, cc)

-- taking off what was set gives the characters back
pub set_clear : (text : List ℕ) (room room' : ℕ) (out : List ℕ) → parity_on text room ≡ done out → length text ≤ room' → parity_off out room' ≡ done text
unfolding parity_on parity_off
set_clear text room room' out e h =
    let (s, made) = when_done (ltb room (length text)) (all seven text) e in
    rw (made, length-map, le-ltb room' (length text) h, all_with_even text s, all-without_with text s)

-- setting on what was taken off gives the bytes back
pub clear_set : (line : List ℕ) (room room' : ℕ) (out : List ℕ) → all byte line ≡ true → parity_off line room ≡ done out → length line ≤ room' → parity_on out room' ≡ done line
unfolding parity_on parity_off
clear_set line room room' out b e h =
    let (s, made) = when_done (ltb room (length line)) (all even line) e in
    let narrow = all_map seven seven_bits (λ v k. lt-ltb (seven_bits v) 0x80 (omega arith)) line s in
    rw (made, length-map, le-ltb room' (length line) h, narrow, all_with_without line b s)

-- an even byte with bit 7 flipped is odd
pub flip_odd : (b : ℕ) → b < 0x100 → even b ≡ true → even (flip_top b) ≡ false
flip_odd b h e =
    let count = ones_top (flip_top b) (1 - b / 0x80) (seven_bits b) (omega arith) (omega arith) (omega arith) in
    ne_eqb (ones (flip_top b) % 2) 0 (omega (arith, even_top b h e))

-- even bytes with bit 7 of one flipped, any one of them, hold an odd one
pub all_flip_odd : (line : List ℕ) (i : ℕ) → all even line ≡ true → i < length line → get_or line i 0 < 0x100 → all even (set line i (flip_top (get_or line i 0))) ≡ false
all_flip_odd line i e h b =
    let v = flip_top (get_or line i 0) in
    let odd = flip_odd (get_or line i 0) b (all-at even line i e h) in
    all-fails even (set line i v) i (rw (get_or-set_same line i v 0 h) odd) (rw (length-set line i v) h)

-- even bytes with bit 7 of one flipped are refused
pub flip_refused : (line : List ℕ) (i room : ℕ) → all even line ≡ true → i < length line → get_or line i 0 < 0x100 → length line ≤ room →
    parity_off (set line i (flip_top (get_or line i 0))) room ≡ refused 3
unfolding parity_off
flip_refused line i room e h b r = rw (length-set, le-ltb room (length line) r, all_flip_odd line i e h b)

-- characters for which there is room are set
pub parity-made : (text : List ℕ) (room : ℕ) → all seven text ≡ true → length text ≤ room → parity_on text room ≡ done (map with_parity text)
unfolding parity_on
parity-made text room h l = rw (le-ltb room (length text) l, h)

-- the line of a text gives the text back
pub with_off : (text : List ℕ) (room : ℕ) → all seven text ≡ true → length text ≤ room → parity_off (map with_parity text) room ≡ done text
unfolding parity_off
with_off text room h l = rw (length-map, le-ltb room (length text) l, all_with_even text h, all-without_with text h)
