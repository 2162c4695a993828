-- Laws of a listing: how long what is printed is, where the first space of a line stands, which segments its information has, and what their blocks print.
use Rattle.std.specs.Prelude.{if◌then◌else◌}
use mathlib.Core.Bool.{Bool, true, false, not, ◌&&◌, and-eq-true_iff}
use mathlib.Core.List.{List, [], ◌∷◌, ◌++◌, flat_map, append_assoc, append-nil}
use mathlib.Core.Logic.{◌⊎◌, inl, inr, ⊎_elim}
use mathlib.Core.Path.{◌≡◌, refl, sym, ap, ◌∙◌}
use Prim.Native.Nat.{ℕ, zero, suc, ◌+◌, ◌-◌, ◌*◌, ◌/◌, ◌%◌, ◌≤◌, ◌<◌, min}
use native.Mathlib.Nat.{not-suc-le-zero, le_of_suc-le-suc}
use native.Mathlib.Numerals.{add-one}
use native.Mathlib.Omega.{arith}
use borrow.Author.Tests.{le-leb, lt-ltb, ltb-true, ltb-false, leb-true, eqb-true, eqb-false, eq-eqb, ne_eqb, not-false}
use lib.Dec.{eqb, leb, ltb, leb-suc-suc}
use lib.ListN.{length, get_or, take, drop, set, length-append, length-set, length-take, length-drop, take-append-drop}
use lib.Seq.{take_all, length-take-le, take_at, drop_at, drop-drop, take-append-le, drop-append-le, set_split, set_out, drop-set-lt, drop-set-add, get_or-set_same, get_or-set_other, get_or-take, get_or-drop}
use Rattle.line.specs.Answer.{done, refusal_number, overlay, Laid}
use Rattle.line.specs.Character.{STX, ETX, ETB, US, CR, LF, seven, printable}
use Rattle.line.specs.Test.{all, before}
use Rattle.line.specs.Text.{bytes_of}
use Rattle.line.specs.Transaction.{ends_in_cr}
use Rattle.line.specs.declared.answer.Refusal.{Refusal}
use Rattle.line.specs.declared.answer.Refusal.TheVariants.{Size, Length, Parity, Frame, Checksum, Information, Journal, Room, Range}
use Rattle.line.proofs.AllLaws.{all_append, all_take, all-at}
use Rattle.line.proofs.FlatLaws.{flat_append, flat_snoc, flat_bound}
use Rattle.line.proofs.ListLaws.{take_min}
use Rattle.line.proofs.OutcomeLaws.{choice, passed}
use Rattle.line.proofs.TransactionLaws.{ends_last}
use Rattle.block.specs.Block.{ending_character, summed, block_of}
use Rattle.block.specs.Checksum.{value_sum, checksum, added, check_characters}
use Rattle.block.specs.Segments.{segment, segment_block}
use Rattle.block.specs.declared.frame.Ending.{Ending}
use Rattle.block.specs.declared.frame.Ending.TheVariants.{Etx}
use Rattle.block.proofs.ChecksumLaws.{checksum-more}
use Rattle.segmentation.specs.Segmentation.{inner_ending, segmentation, segment_at, block_count}
use Rattle.segmentation.proofs.SegmentationLaws.{segment-at, segment-short, segmentation-count}
use Rattle.listing.specs.Listing.{shown, printed_block, line_end, Added, Cut, segment_of, spaced, fields_of, checked_line}

-- ── What is printed ──

-- a character takes at most five bytes
pub shown-length : (c : ℕ) → length (shown c) ≤ 5
unfolding shown
shown-length c =
    choice short (eqb c STX) (λ _. omega arith) λ _.
    choice short (eqb c ETX) (λ _. omega arith) λ _.
    choice short (eqb c ETB) (λ _. omega arith) λ _.
    choice short (eqb c US) (λ _. omega arith) λ _.
    choice short (eqb c CR) (λ _. omega arith) (λ _. omega arith)
  where
    short : List ℕ → Type 0
    short s = length s ≤ 5

-- a printable one is printed as it is
shown_itself : (c : ℕ) → printable c ≡ true → shown c ≡ c ∷ []
unfolding shown
shown_itself c h =
    let far = leb-true 0x20 c ((and-eq-true_iff (leb 0x20 c) (leb c 0x7E)).0 h).0 in
    rw (ne_eqb c STX (λ e. omega arith), ne_eqb c ETX (λ e. omega arith), ne_eqb c ETB (λ e. omega arith), ne_eqb c US (λ e. omega arith), ne_eqb c CR (λ e. omega arith))

-- and so are many
shown-text : (xs : List ℕ) → all printable xs ≡ true → flat_map shown xs ≡ xs
unfolding flat_map all
shown-text [] h = refl
shown-text (c ∷ xs) h =
    let (first, rest) = (and-eq-true_iff (printable c) (all printable xs)).0 h in
    rw (shown_itself c first, shown-text xs rest)

-- the line of a block takes at most 1,281 bytes
pub printed-length : (t : List ℕ) (i : ℕ) → i < length (segmentation t) → length (printed_block (segment_at t i)) ≤ 1281
printed-length t i h = rw length-append (omega (arith, flat_bound shown 5 shown-length (segment_block (segment_at t i)), segment-short t i h))

-- a refusal's number is one digit
pub refusal_digit : (r : Refusal) → refusal_number r ≤ 9
refusal_digit Size = omega arith
refusal_digit Length = omega arith
refusal_digit Parity = omega arith
refusal_digit Frame = omega arith
refusal_digit Checksum = omega arith
refusal_digit Information = omega arith
refusal_digit Journal = omega arith
refusal_digit Room = omega arith
refusal_digit Range = omega arith

-- ── What is put behind what is there ──

-- nothing is put
pub added_none : (m : List ℕ) → Added 0 [] 0 m m
added_none m = record { ends = refl; leaves = refl }

module _ {at n : ℕ} {xs m out : List ℕ} (d : Added at xs n m out) where
  -- what is put at the start is laid there
  pub added-laid : at ≡ 0 → Laid xs n m out
  unfolding overlay
  added-laid e =
      let start : at + length xs ≡ length xs = omega arith in
      record { counts = d.ends ∙ start; leaves = d.leaves ∙ rw (start, e) }

  -- what is there has its place
  added-start : at ≤ length m → length (take at m ++ xs) ≡ n
  added-start h = rw (length-append, length-take-le at m h) (sym d.ends)

  -- the memory keeps its length
  pub added-length : at + length xs ≤ length m → length out ≡ length m
  added-length h = rw d.leaves (simp (length-append, length-take, length-drop) (omega arith))

  -- and more behind
  pub added_more : at ≤ length m → {ys after : List ℕ} {k : ℕ} → Added n ys k out after → Added at (xs ++ ys) k m after
  added_more h {ys} e =
      let whole : out ≡ (take at m ++ xs) ++ drop (at + length xs) m = d.leaves ∙ sym (append_assoc (take at m) xs (drop (at + length xs) m)) in
      let rest = drop (at + length xs) m in
      let front : take n out ≡ take at m ++ xs = rw whole (take_at (take at m ++ xs) rest n (added-start h)) in
      let behind : drop n out ≡ rest = rw whole (drop_at (take at m ++ xs) rest n (added-start h)) in
      let places : at + length xs + length ys ≡ at + length (xs ++ ys) = rw length-append (omega arith) in
      let back : drop (n + length ys) out ≡ drop (at + length (xs ++ ys)) m = sym (drop-drop (length ys) n out) ∙ rw (behind, drop-drop, places) in
      record {
        ends = rw length-append (omega (arith, d.ends, e.ends));
        leaves = e.leaves ∙ rw (front, back, append_assoc (take at m) xs, append_assoc xs ys);
      }

-- ── Where the first space is ──

-- a line has a space exactly if the first one stands within it
pub spaced-before : (line : List ℕ) → spaced line ≡ ltb (before 0x20 line) (length line)
unfolding all before
spaced-before [] = refl
spaced-before (c ∷ line) = go (eqb c 0x20) (spaced-before line)
  where
    go : (b : Bool) → spaced line ≡ ltb (before 0x20 line) (length line) → not (not b && all (λ x. not (eqb x 0x20)) line) ≡ ltb (if b then 0 else suc (before 0x20 line)) (length (c ∷ line))
    go true n = rw (lt-ltb 0 (length (c ∷ line)) (omega arith))
    go false n = rw leb-suc-suc n

-- ── The information of a line ──

-- CR in the place of the first space, and CR behind
pub fields-set : (line : List ℕ) → before 0x20 line < length line → fields_of line ≡ set line (before 0x20 line) CR ++ CR ∷ []
unfolding before fields_of
fields-set [] h = absurd (not-suc-le-zero h)
fields-set (c ∷ line) h = go (eqb c 0x20) (fields-set line) h
  where
    go : (b : Bool) → (before 0x20 line < length line → fields_of line ≡ set line (before 0x20 line) CR ++ CR ∷ []) → (if b then 0 else suc (before 0x20 line)) < length (c ∷ line) →
        (if b then CR ∷ line ++ CR ∷ [] else c ∷ fields_of line) ≡ set (c ∷ line) (if b then 0 else suc (before 0x20 line)) CR ++ CR ∷ []
    go true n h = refl
    go false n h = ap (λ t. c ∷ t) (n (le_of_suc-le-suc h))

-- it has a character more than the line
pub fields-length : (line : List ℕ) → length (fields_of line) ≡ length line + 1
unfolding fields_of
fields-length [] = refl
fields-length (c ∷ line) =
    choice (λ t. length t ≡ length (c ∷ line) + 1) (eqb c 0x20) {x = CR ∷ line ++ CR ∷ []} {y = c ∷ fields_of line} (λ _. rw length-append (omega arith)) (λ _. omega (arith, fields-length line))

-- ── A line that is printed ──

-- what was tested of it
pub record Good (line : List ℕ) (space : ℕ) : Type 0 where
  pub short : length line ≤ 1999
  pub text : all printable line ≡ true
  pub place : space ≡ before 0x20 line
  pub within : before 0x20 line < length line

pub line-good : (line : List ℕ) (space : ℕ) → checked_line line ≡ done space → Good line space
unfolding checked_line
line-good line space h =
    let (long, e) = passed (ltb 1999 (length line)) 2 _ _ h in
    let (_, e) = passed (not (all seven line)) 3 _ _ e in
    let (right, e) = passed (not (all printable line && spaced line)) 6 _ _ e in
    let (text, space) = (and-eq-true_iff (all printable line) (spaced line)).0 (not-false _ right) in
    let short = ltb-false 1999 (length line) long in
    record {
      short = omega arith;
      text = text;
      place = sym (cc);
      within = ltb-true _ _ (sym (spaced-before line) ∙ space);
    }

-- ── The characters of a block ──

-- the members from one on pass a test where all do
all_drop : (p : ℕ → Bool) (n : ℕ) (xs : List ℕ) → all p xs ≡ true → all p (drop n xs) ≡ true
all_drop p n xs h = ((and-eq-true_iff (all p (take n xs)) (all p (drop n xs))).0 (rw (← all_append, take-append-drop) h)).1

-- with CR in the place of the space they are printed in three parts
pub shown_marked : (part : List ℕ) (space : ℕ) → all printable part ≡ true → space < length part →
    flat_map shown (set part space CR) ≡ take space part ++ (bytes_of "<CR>" ++ drop (space + 1) part)
unfolding flat_map shown
shown_marked part space h within =
    rw (set_split part space CR within, flat_append shown (take space part) (CR ∷ drop (suc space) part), shown-text _ (all_take printable space part h), shown-text _ (all_drop printable (suc space) part h), add-one)

-- and where it is not among them, as they are
pub shown_unmarked : (part : List ℕ) (space : ℕ) → all printable part ≡ true → length part ≤ space → flat_map shown (set part space CR) ≡ part
shown_unmarked part space h behind = rw (set_out part space CR behind) (shown-text part h)

-- behind STX they leave room for the end of a block
pub part_room : {at n : ℕ} {m out : List ℕ} (part : List ℕ) (space : ℕ) → Cut part space → at + 1281 ≤ length m →
    Added at (bytes_of "<STX>" ++ flat_map shown (set part space CR)) n m out → (k : ℕ) → k ≤ 9 → n + k + 8 ≤ length out
part_room part space cut room d k h =
    let few = flat_bound shown 5 shown-length (set part space CR) in
    let size = length-set part space CR in
    let short = cut.short in
    let ends = d.ends in
    omega (arith, added-length d (omega arith))

-- ── The sum of a block ──

-- CR in the place of a space takes 19 off
pub sum_marked : (part : List ℕ) (space : ℕ) → space < length part → get_or part space 0 ≡ 0x20 → value_sum (set part space CR) + 19 ≡ value_sum part
unfolding value_sum
sum_marked [] space h e = absurd (not-suc-le-zero h)
sum_marked (c ∷ part) zero h e = rw e (omega arith)
sum_marked (c ∷ part) (suc space) h e = omega (arith, sum_marked part space (le_of_suc-le-suc h) e)

-- ── What a block prints ──

-- check characters are printed as they are
shown-check : (s : ℕ) → s < 4096 → flat_map shown (check_characters s) ≡ check_characters s
unfolding check_characters all
shown-check s h =
    shown-text (check_characters s)
    (rw (le-leb 0x20 (0x30 + s / 256) (omega arith), le-leb (0x30 + s / 256) 0x7E (omega arith), le-leb 0x20 (0x30 + s / 16 % 16) (omega arith), le-leb (0x30 + s / 16 % 16) 0x7E (omega arith), le-leb 0x20 (0x30 + s % 16) (omega arith), le-leb (0x30 + s % 16) 0x7E (omega arith)))

-- its parts, each as it is printed
printed-parts : (info : List ℕ) (e : Ending) →
    printed_block (segment info e) ≡ bytes_of "<STX>" ++ (flat_map shown info ++ (shown (ending_character e) ++ line_end (checksum (summed info e))))
unfolding flat_map shown block_of
printed-parts info e =
    let c = ending_character e in
    let check = check_characters (checksum (summed info e)) in
    rw (flat_append shown ((info ++ c ∷ []) ++ check) (CR ∷ []), flat_append shown (info ++ c ∷ []) check, flat_append shown info (c ∷ []), shown-check (checksum (summed info e)) (omega arith), append-nil (shown c))
    (ap (λ l. bytes_of "<STX>" ++ l) (regroup (flat_map shown info) (shown c) check (bytes_of "<CR>") (LF ∷ [])))
  where
    regroup : (a b c d e : List ℕ) → (((a ++ b) ++ c) ++ d) ++ e ≡ a ++ (b ++ (c ++ (d ++ e)))
    regroup a b c d e = simp append_assoc

module _ (part : List ℕ) (space sum : ℕ) (right : checksum (STX ∷ set part space CR) ≡ sum) where
  -- of the last one
  pub printed-last : {end : ℕ} → end ≡ added (added sum CR) ETX →
      printed_block (segment_of part space true) ≡ bytes_of "<STX>" ++ (flat_map shown (set part space CR) ++ (bytes_of "<CR><ETX>" ++ line_end (end % 4096)))
  unfolding flat_map shown
  printed-last {end} h =
      let s = set part space CR in
      let check : checksum (summed (s ++ CR ∷ []) Etx) ≡ end % 4096 = checksum-more (STX ∷ s ++ CR ∷ []) ETX ∙ rw (checksum-more (STX ∷ s) CR, right) (omega (arith, h)) in
      printed-parts (s ++ CR ∷ []) Etx ∙ rw (check, flat_append shown s (CR ∷ []), append_assoc)

  -- of one behind which the transaction goes on, with the ending that its last field asks for
  pub printed-inner : {end : ℕ} (e : Ending) → inner_ending (set part space CR) ≡ e → end ≡ added sum (ending_character e) →
      printed_block (segment_of part space false) ≡ bytes_of "<STX>" ++ (flat_map shown (set part space CR) ++ (shown (ending_character e) ++ line_end (end % 4096)))
  printed-inner {end} e asked h =
      let s = set part space CR in
      let check : checksum (summed s e) ≡ end % 4096 = checksum-more (STX ∷ s) (ending_character e) ∙ rw right (omega (arith, h)) in
      rw asked (printed-parts s e ∙ rw check)

-- ── The segments of a line ──

-- the last field of one is complete where the space was its last character
pub ends_marked : (part : List ℕ) (space : ℕ) → all printable part ≡ true → ends_in_cr (set part space CR) ≡ eqb (space + 1) (length part)
unfolding ends_in_cr
ends_marked [] space h = sym (ne_eqb (space + 1) 0 (λ e. omega arith))
ends_marked (c ∷ part) space h = ends_last (set l space CR) ∙ rw (length-set l space CR) (go (eqb (space + 1) (length l)) refl)
  where
    l : List ℕ
    l = c ∷ part

    go : (b : Bool) → eqb (space + 1) (length l) ≡ b → eqb (get_or (set l space CR) (length l - 1) 0) CR ≡ b
    go true e =
        let end : length l - 1 ≡ space = omega (arith, eqb-true (space + 1) (length l) e) in
        rw (end, get_or-set_same l space CR 0 (omega (arith, eqb-true (space + 1) (length l) e)))
    go false e =
        let other = get_or-set_other l space (length l - 1) CR 0 (λ q. eqb-false (space + 1) (length l) e (omega arith)) in
        let text = ((and-eq-true_iff (leb 0x20 (get_or l (length l - 1) 0)) _).0 (all-at printable l (length l - 1) h (omega arith))).0 in
        rw other (ne_eqb (get_or l (length l - 1) 0) CR (λ q. omega (arith, leb-true 0x20 (get_or l (length l - 1) 0) text)))

-- at its place there is a space
before_at : (line : List ℕ) → before 0x20 line < length line → get_or line (before 0x20 line) 0 ≡ 0x20
unfolding before
before_at [] h = absurd (not-suc-le-zero h)
before_at (c ∷ line) h = go (eqb c 0x20) refl (before_at line) h
  where
    go : (b : Bool) → eqb c 0x20 ≡ b → (before 0x20 line < length line → get_or line (before 0x20 line) 0 ≡ 0x20) → (if b then 0 else suc (before 0x20 line)) < length (c ∷ line) →
        get_or (c ∷ line) (if b then 0 else suc (before 0x20 line)) 0 ≡ 0x20
    go true e n h = eqb-true c 0x20 e
    go false e n h = n (le_of_suc-le-suc h)

-- how many they are
pub line-count : (line : List ℕ) → length (segmentation (fields_of line)) ≡ block_count (length line + 1)
line-count line = segmentation-count (fields_of line) ∙ rw (fields-length line)

-- the block at an index is printed behind those before it
pub line_turn : (line : List ℕ) (i : ℕ) {at r : ℕ} {m out after : List ℕ} → i < block_count (length line + 1) → at + 1281 ≤ length out → length out ≡ length m →
    Added 0 (flat_map printed_block (take i (segmentation (fields_of line)))) at m out → Added at (printed_block (segment_at (fields_of line) i)) r out after →
    (r ≤ at + 1281) × (length after ≡ length m) × Added 0 (flat_map printed_block (take (i + 1) (segmentation (fields_of line)))) r m after
line_turn line i h room long d e =
    let t = fields_of line in
    let within : i < length (segmentation t) = rw (line-count line) h in
    let size = printed-length t i within in
    (omega (arith, e.ends), added-length e (omega arith) ∙ long, rw (flat_snoc printed_block (segmentation t) i (segment [] Etx) within) (added_more d (omega arith) e))

-- the start of a list with a member stored anew
take-set : (n : ℕ) (l : List ℕ) (k v : ℕ) → take n (set l k v) ≡ set (take n l) k v
take-set zero l k v = refl
take-set (suc n) [] k v = refl
take-set (suc n) (x ∷ l) zero v = refl
take-set (suc n) (x ∷ l) (suc k) v = ap (λ t. x ∷ t) (take-set n l k v)

-- the block at an index, its characters of the line, which end there, and the place of the space among them
module _ (line : List ℕ) (space i end place : ℕ) (good : Good line space) (within : i < block_count (length line + 1))
    (ends : end ≡ min (length line) (250 * i + 250)) (stands : place ≡ (if ltb space (250 * i) then 250 else space - 250 * i)) where
  -- the space stands before them, or so many behind their start
  where_stands : ((space < 250 * i) × (place ≡ 250)) ⊎ ((250 * i ≤ space) × (place ≡ space - 250 * i))
  where_stands = go (ltb space (250 * i)) refl stands
    where
      go : (b : Bool) → ltb space (250 * i) ≡ b → place ≡ (if b then 250 else space - 250 * i) → ((space < 250 * i) × (place ≡ 250)) ⊎ ((250 * i ≤ space) × (place ≡ space - 250 * i))
      go true e p = inl (ltb-true space (250 * i) e, p)
      go false e p = inr (ltb-false space (250 * i) e, p)

  -- they are those that fit
  part-whole : take (end - 250 * i) (drop (250 * i) line) ≡ take 250 (drop (250 * i) line)
  part-whole =
      let rest = drop (250 * i) line in
      let long : end - 250 * i ≡ min 250 (length rest) = rw length-drop (omega arith) in
      rw long (take_min 250 rest)

  -- CR in the place of the space is CR in the line's
  part_marked : take 250 (drop (250 * i) (set line space CR)) ≡ set (take 250 (drop (250 * i) line)) place CR
  part_marked =
      let rest = drop (250 * i) line in
      ⊎_elim
      (λ w. rw (drop-set-lt (250 * i) line space CR w.0, w.1, set_out (take 250 rest) 250 CR (omega (arith, length-take 250 rest))))
      (λ w.
      let far : space ≡ 250 * i + place = omega (arith, w) in
      rw (far, drop-set-add) (take-set 250 rest place CR))
      where_stands

  -- they are cut from the line
  pub part_cut : Cut (take (end - 250 * i) (drop (250 * i) line)) place
  part_cut =
      let rest = drop (250 * i) line in
      rw part-whole
      (record {
        text = all_take printable 250 rest (all_drop printable (250 * i) line good.text);
        short = omega (arith, length-take 250 rest);
        near = ⊎_elim (λ w. omega arith) (λ w. omega (arith, good)) where_stands;
        right = λ h.
            ⊎_elim
            (λ w. absurd (omega (arith, length-take 250 rest)))
            (λ (w : (250 * i ≤ space) × (place ≡ space - 250 * i)).
            let close : place < 250 = omega (arith, length-take 250 rest) in
            let far : 250 * i + place ≡ before 0x20 line = omega (arith, w, good) in
            rw (get_or-take, get_or-drop, far) (before_at line good.within))
            where_stands;
      })

  -- and are the block's
  pub part-segment : segment_at (fields_of line) i ≡ segment_of (take (end - 250 * i) (drop (250 * i) line)) place (ltb end (250 * i + 250))
  part-segment = segment-at t i (rw (line-count line) within) ∙ go (ltb end (250 * i + 250)) refl
    where
      t : List ℕ
      t = fields_of line

      part : List ℕ
      part = take (end - 250 * i) (drop (250 * i) line)

      rest : List ℕ
      rest = drop (250 * i) (set line space CR)

      long : length rest ≡ length line - 250 * i
      long = rw (length-drop, length-set)

      left : drop (250 * i) t ≡ rest ++ CR ∷ []
      left = rw (fields-set line good.within, ← good.place) (drop-append-le (250 * i) (set line space CR) (CR ∷ []) (rw length-set (omega arith)))

      go : (b : Bool) → ltb end (250 * i + 250) ≡ b →
          segment (take 250 (drop (250 * i) t)) (if eqb (i + 1) (length (segmentation t)) then Etx else inner_ending (take 250 (drop (250 * i) t))) ≡ segment_of part place b
      go true e =
          let few = ltb-true end (250 * i + 250) e in
          let whole = take_all 250 (rest ++ CR ∷ []) (omega (arith, length-append rest (CR ∷ []), long)) in
          let last = eq-eqb (i + 1) (length (segmentation t)) (omega (arith, line-count line)) in
          rw (left, whole, last, part-whole, ← part_marked, take_all 250 rest (omega (arith, long)))
      go false e =
          let full = ltb-false end (250 * i + 250) e in
          let start = take-append-le 250 rest (CR ∷ []) (omega (arith, long)) in
          let inner = ne_eqb (i + 1) (length (segmentation t)) (λ q. omega (arith, line-count line)) in
          rw (left, start, inner, part-whole, ← part_marked)
