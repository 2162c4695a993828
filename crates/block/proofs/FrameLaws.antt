-- Laws of blocks: where the parts of a frame stand, that the test of a frame decides what document 01 calls one, and that reading and writing undo each other.
use Rattle.std.specs.Prelude.{if◌then◌else◌}
use mathlib.Core.Bool.{Bool, true, false, not, ◌&&◌, and-true, and-eq-true_iff}
use mathlib.Core.List.{List, [], ◌∷◌, ◌++◌, append_assoc}
use mathlib.Core.Path.{◌≡◌, refl, sym, ap, ◌∙◌}
use Prim.Native.Nat.{ℕ, suc, ◌+◌, ◌-◌, ◌/◌, ◌%◌, ◌≤◌, ◌<◌}
use native.Mathlib.Omega.{arith}
use borrow.Author.Tests.{leb-true, eqb-true, le-leb, lt-ltb, le-ltb}
use lib.Dec.{leb, eqb}
use lib.ListN.{length, get_or, take, drop, length-append, drop_of_length-le, take-append-drop}
use lib.Seq.{drop-cons, drop-drop, take_at, drop_at, get_or_at}
use Rattle.line.specs.Answer.{Outcome, done, refused}
use Rattle.line.specs.Character.{STX, ETX, ETB, US, CR, seven, textual}
use Rattle.line.specs.Test.{all, same}
use Rattle.line.proofs.AllLaws.{all_append, all_weaken}
use Rattle.line.proofs.SameLaws.{same_equal, same_self}
use Rattle.line.proofs.TransactionLaws.{textual-seven}
use Rattle.block.specs.Block.{ending_character, summed, block_of, right, checking, Frame, inside, ending_at, check_in, ends, ending_of, framed, summing, Segment, read_block, write_block}
use Rattle.block.specs.Checksum.{checksum, check_characters}
use Rattle.block.specs.declared.frame.Ending.{Ending}
use Rattle.block.specs.declared.frame.Ending.TheVariants.{Etx, Etb, Us}

-- what the check is of is two characters longer than the information
pub summed-length : (info : List ℕ) (e : Ending) → length (summed info e) ≡ length info + 2
summed-length info e = simp length-append (omega arith)

-- a block is six characters longer than its information
pub block-length : (info : List ℕ) (e : Ending) → length (block_of info e) ≡ length info + 6
unfolding block_of check_characters
block-length info e = simp length-append (omega arith)

-- ── Where the parts stand ──

-- three members of a list, one after the other
three_members : (s : List ℕ) (k : ℕ) → suc (suc k) < length s → take 3 (drop k s) ≡ get_or s k 0 ∷ get_or s (suc k) 0 ∷ get_or s (suc (suc k)) 0 ∷ []
three_members s k h = rw (drop-cons s k 0 (omega arith), drop-cons s (suc k) 0 (omega arith), drop-cons s (suc (suc k)) 0 h)

-- the three characters before the last, each by its place
pub check-three : (s : List ℕ) → 6 ≤ length s → check_in s ≡ get_or s (length s - 4) 0 ∷ get_or s (length s - 3) 0 ∷ get_or s (length s - 2) 0 ∷ []
check-three s h =
    let second : length s - 3 ≡ suc (length s - 4) = omega arith in
    let third : length s - 2 ≡ suc (suc (length s - 4)) = omega arith in
    rw (second, third) (three_members s (length s - 4) (omega arith))

-- the test of the check characters, character by character
pub summing-three : (s r : List ℕ) → 6 ≤ length s → r ≡ check_characters (checksum (take (length s - 4) s)) →
    summing s ≡ (eqb (get_or s (length s - 4) 0) (get_or r 0 0) && (eqb (get_or s (length s - 3) 0) (get_or r 1 0) && eqb (get_or s (length s - 2) 0) (get_or r 2 0)))
unfolding summing same check_characters
summing-three s r h e = rw (e, check-three s h, and-true)

-- the part between STX and the last five, as the reader cuts it
pub inside-part : (s : List ℕ) → take (length s - 5 - 1) (drop 1 s) ≡ inside s
inside-part s = let n : length s - 5 - 1 ≡ length s - 6 = omega arith in rw n

-- a string of at least six characters, cut at these places
cut : (s : List ℕ) → 6 ≤ length s → s ≡ get_or s 0 0 ∷ inside s ++ (ending_at s ∷ check_in s ++ get_or s (length s - 1) 0 ∷ [])
cut s h =
    let n = length s in
    let past : suc (n - 1) ≡ n = omega arith in
    let last : drop (n - 1) s ≡ get_or s (n - 1) 0 ∷ [] = drop-cons s (n - 1) 0 (omega arith) ∙ rw (past, drop_of_length-le s {i = n} (omega arith)) in
    let behind : n - 4 + 3 ≡ n - 1 = omega arith in
    let check : drop (n - 4) s ≡ check_in s ++ get_or s (n - 1) 0 ∷ [] = sym (take-append-drop 3 (drop (n - 4) s)) ∙ ap (λ l. check_in s ++ l) (drop-drop 3 (n - 4) s ∙ rw (behind, last)) in
    let next : suc (n - 5) ≡ n - 4 = omega arith in
    let end : drop (n - 5) s ≡ ending_at s ∷ drop (n - 4) s = drop-cons s (n - 5) 0 (omega arith) ∙ rw next in
    let from : 1 + (n - 6) ≡ n - 5 = omega arith in
    let rest : drop 1 s ≡ inside s ++ drop (n - 5) s = sym (take-append-drop (n - 6) (drop 1 s)) ∙ ap (λ l. inside s ++ l) (drop-drop (n - 6) 1 s ∙ rw from) in
    drop-cons s 0 0 (omega arith) ∙ ap (λ l. get_or s 0 0 ∷ l) (rest ∙ ap (λ l. inside s ++ l) (end ∙ ap (λ l. ending_at s ∷ l) check))

-- ── A frame, and its test ──

-- an ending's character is one
ends_character : (e : Ending) → ends (ending_character e) ≡ true
ends_character Etx = refl
ends_character Etb = refl
ends_character Us = refl

-- the ending of an ending's character
ending_character_lem : (e : Ending) → ending_of (ending_character e) ≡ e
ending_character_lem Etx = refl
ending_character_lem Etb = refl
ending_character_lem Us = refl

-- the character of a character's ending
character_ending : (c : ℕ) → ends c ≡ true → ending_character (ending_of c) ≡ c
character_ending c h = go (eqb c ETX) (eqb c ETB) refl refl
  where
    go : (x b : Bool) → eqb c ETX ≡ x → eqb c ETB ≡ b → ending_character (ending_of c) ≡ c
    go true b p q = rw p (sym (eqb-true c ETX p))
    go false true p q = rw (p, q) (sym (eqb-true c ETB q))
    go false false p q = rw (p, q) (sym (eqb-true c US (rw (p, q) at h)))

-- what passes the test is a frame
pub framed-frame : (s : List ℕ) → 6 ≤ length s → framed s ≡ true → Frame s (inside s) (ending_of (ending_at s)) (check_in s)
unfolding framed
framed-frame s h t =
    let (r, last) = (and-eq-true_iff _ (eqb (get_or s (length s - 1) 0) CR)).0 t in
    let (q, range) = (and-eq-true_iff _ (all checking (check_in s))).0 r in
    let (first, end) = (and-eq-true_iff (eqb (get_or s 0 0) STX) (ends (ending_at s))).0 q in
    let stx = eqb-true (get_or s 0 0) STX first in
    let cr = eqb-true (get_or s (length s - 1) 0) CR last in
    record {
      whole = cut s h ∙ rw (stx, cr, character_ending (ending_at s) end);
      three = ap length (check-three s h);
      range = range;
    }

-- a string that passes the test of a frame, and where its parts are found
pub record Found (s info : List ℕ) (e : Ending) (check : List ℕ) : Type 0 where
  pub long : length s ≡ length info + 6
  pub passes : framed s ≡ true
  pub information : inside s ≡ info
  pub ending : ending_of (ending_at s) ≡ e
  pub checked : check_in s ≡ check
  pub before : take (length s - 4) s ≡ summed info e

module _ {s info : List ℕ} {e : Ending} {check : List ℕ} (f : Frame s info e check) where
  -- a frame is six characters longer than its information
  frame-length : length s ≡ length info + 6
  frame-length = ap length f.whole ∙ simp length-append (omega (arith, f.three))

  -- its information stands between STX and the last five
  frame-inside : inside s ≡ info
  frame-inside = ap (λ l. take (length s - 6) (drop 1 l)) f.whole ∙ take_at info (ending_character e ∷ check ++ CR ∷ []) (length s - 6) (omega (arith, frame-length))

  -- its ending before the last four
  frame-ending : ending_at s ≡ ending_character e
  frame-ending = ap (λ l. get_or l (length s - 5) 0) f.whole ∙ get_or_at (STX ∷ info) (ending_character e) (check ++ CR ∷ []) 0 (length s - 5) (omega (arith, frame-length))

  -- it is what its check is of, the check and CR
  frame-summed : s ≡ summed info e ++ (check ++ CR ∷ [])
  frame-summed = f.whole ∙ sym (append_assoc (STX ∷ info) (ending_character e ∷ []) (check ++ CR ∷ []))

  -- what its check is of stands before the last four
  frame-before : take (length s - 4) s ≡ summed info e
  frame-before = ap (take (length s - 4)) frame-summed ∙ take_at (summed info e) (check ++ CR ∷ []) (length s - 4) (omega (arith, frame-length, summed-length info e))

  -- its check before the last
  frame-check : check_in s ≡ check
  frame-check =
      let behind = drop_at (summed info e) (check ++ CR ∷ []) (length s - 4) (omega (arith, frame-length, summed-length info e)) in
      ap (λ l. take 3 (drop (length s - 4) l)) frame-summed ∙ ap (take 3) behind ∙ take_at check (CR ∷ []) 3 f.three

  -- and CR at the end
  frame-last : get_or s (length s - 1) 0 ≡ CR
  frame-last =
      let front = length-append (summed info e) check in
      ap (λ l. get_or l (length s - 1) 0) (frame-summed ∙ sym (append_assoc (summed info e) check (CR ∷ []))) ∙
      get_or_at (summed info e ++ check) CR [] 0 (length s - 1) (omega (arith, frame-length, summed-length info e, f.three))

  -- a frame passes the test, and its parts are found
  pub frame-framed : Found s info e check
  unfolding framed
  frame-framed =
      let first : get_or s 0 0 ≡ STX = ap (λ l. get_or l 0 0) f.whole in
      record {
        long = frame-length;
        passes = rw (first, frame-ending, ends_character e, frame-check, f.range, frame-last);
        information = frame-inside;
        ending = ap ending_of frame-ending ∙ ending_character_lem e;
        checked = frame-check;
        before = frame-before;
      }

-- ── Writing and reading ──

-- four bits of a checksum are carried by a character of 30 to 3F
carried : (b : ℕ) → b < 16 → checking (0x30 + b) ≡ true
carried b h = rw (le-leb 0x30 (0x30 + b) (omega arith), le-leb (0x30 + b) 0x3F (omega arith))

-- the characters of a checksum are check characters
check-range : (n : ℕ) → n < 4096 → all checking (check_characters n) ≡ true
unfolding all check_characters
check-range n h = rw (carried (n / 256) (omega arith), carried (n / 16 % 16) (omega arith), carried (n % 16) (omega arith))

-- a block is a frame
pub block-frame : (info : List ℕ) (e : Ending) → Frame (block_of info e) info e (check_characters (checksum (summed info e)))
unfolding block_of check_characters
block-frame info e =
    let check = check_characters (checksum (summed info e)) in
    record {
      whole = append_assoc (summed info e) check (CR ∷ []) ∙ append_assoc (STX ∷ info) (ending_character e ∷ []) (check ++ CR ∷ []);
      three = refl;
      range = check-range (checksum (summed info e)) (omega arith);
    }

-- a frame with the right check is a block
pub frame-block : {s info : List ℕ} {e : Ending} {check : List ℕ} → Frame s info e check → check ≡ check_characters (checksum (summed info e)) → s ≡ block_of info e
frame-block {info} {e} f h = f.whole ∙ rw h (sym (block-frame info e).whole)

-- an ending's character is a 7-bit value
character_seven : (e : Ending) → seven (ending_character e) ≡ true
character_seven Etx = refl
character_seven Etb = refl
character_seven Us = refl

-- a character that carries four bits is a 7-bit value
checking-seven : (c : ℕ) → checking c ≡ true → seven c ≡ true
checking-seven c h =
    let (_, le) = (and-eq-true_iff (leb 0x30 c) (leb c 0x3F)).0 h in
    lt-ltb c 0x80 (omega (arith, leb-true c 0x3F le))

-- a frame around characters of a transaction has 7-bit values alone
frame-seven : {s info : List ℕ} {e : Ending} {check : List ℕ} → Frame s info e check → all textual info ≡ true → all seven s ≡ true
unfolding all
frame-seven {info} {e} {check} f h = rw (f.whole, all_append, all_append, textual-seven info h, character_seven e, all_weaken checking-seven check f.range)

-- information that its ending allows is written where there is room
pub write_right : (info : List ℕ) (e : Ending) (room : ℕ) → length info + 6 ≤ room → length info ≤ 250 → right info e ≡ true → write_block info e room ≡ done (block_of info e)
unfolding write_block
write_right info e room fits short h =
    let text = ((and-eq-true_iff (all textual info) _).0 h).0 in
    rw (le-ltb room (length info + 6) fits, le-ltb 250 (length info) short, textual-seven info text, h)

-- reading what was written gives information and ending back
pub write_read : (info : List ℕ) (e : Ending) → length info ≤ 250 → right info e ≡ true → read_block (block_of info e) ≡ done (record { info = info; ending = e })
unfolding read_block summing
write_read info e l h =
    let s = block_of info e in
    let f = block-frame info e in
    let d = frame-framed f in
    let text = ((and-eq-true_iff (all textual info) _).0 h).0 in
    rw (
      le-leb 6 (length s) (omega (arith, d.long)),
      le-leb (length s) 256 (omega (arith, d.long)),
      frame-seven f text,
      d.passes,
      d.checked,
      d.before,
      same_self (check_characters (checksum (summed info e))),
      d.information,
      d.ending,
      h,
    )

-- the information and the ending that a string has as a frame
abbrev segment_in : List ℕ → Segment
segment_in s = record { info = inside s; ending = ending_of (ending_at s) }

-- an outcome of the reader that says that every test before the one of the information passed
abbrev late : Outcome Segment → Bool
late (done g) = true
late (refused n) = eqb n 6

-- what passes every test before the one of the information
pub record Framed (s : List ℕ) : Type 0 where
  pub long : 6 ≤ length s
  pub short : length s ≤ 256
  pub narrow : all seven s ≡ true
  pub frame : framed s ≡ true
  pub check : summing s ≡ true

-- the tests before the one of the information pass where the outcome says so
read-late : (s : List ℕ) (o : Outcome Segment) → late o ≡ true → read_block s ≡ o →
    Framed s × ((if not (right (inside s) (ending_of (ending_at s))) then refused 6 else done (segment_in s)) ≡ o)
unfolding read_block
read-late s o l h =
    let (tests, e) = go (leb 6 (length s) && leb (length s) 256) (all seven s) (framed s) (summing s) h in
    let (r, check) = (and-eq-true_iff _ (summing s)).0 tests in
    let (q, frame) = (and-eq-true_iff _ (framed s)).0 r in
    let (p, narrow) = (and-eq-true_iff _ (all seven s)).0 q in
    let (long, short) = (and-eq-true_iff (leb 6 (length s)) (leb (length s) 256)).0 p in
    (record { long = leb-true 6 (length s) long; short = leb-true (length s) 256 short; narrow = narrow; frame = frame; check = check }, e)
  where
    last : Outcome Segment
    last = if not (right (inside s) (ending_of (ending_at s))) then refused 6 else done (segment_in s)

    go : (n v f c : Bool) → (if not n then refused 2 else if not v then refused 3 else if not f then refused 4 else if not c then refused 5 else last) ≡ o →
        (n && v && f && c ≡ true) × (last ≡ o)
    go true true true true h = (refl, h)
    go true true true false h = let z = rw (← h) at l in (cc, cc)
    go true true false c h = let z = rw (← h) at l in (cc, cc)
    go true false f c h = let z = rw (← h) at l in (cc, cc)
    go false v f c h = let z = rw (← h) at l in (cc, cc)

-- such a string is the block of its information and ending
pub framed-block : (s : List ℕ) → Framed s → s ≡ block_of (inside s) (ending_of (ending_at s))
unfolding summing
framed-block s d =
    let f = framed-frame s d.long d.frame in
    frame-block f (same_equal (check_in s) _ d.check ∙ rw (frame-framed f).before)

-- what the reader finds, and the tests that it passed
pub record Read (s : List ℕ) (g : Segment) : Type 0 where
  pub tests : Framed s
  pub allowed : right (inside s) (ending_of (ending_at s)) ≡ true
  pub information : inside s ≡ g.info
  pub ending : ending_of (ending_at s) ≡ g.ending

-- what reads passes every test
pub read_done : (s : List ℕ) (g : Segment) → read_block s ≡ done g → Read s g
read_done s g h =
    let (tests, e) = read-late s (done g) refl h in
    let (allowed, found) = go (right (inside s) (ending_of (ending_at s))) e in
    record { tests = tests; allowed = allowed; information = ap (λ x. x.info) found; ending = ap (λ x. x.ending) found }
  where
    go : (b : Bool) → (if not b then refused 6 else done (segment_in s)) ≡ done g → (b ≡ true) × (segment_in s ≡ g)
    go true h = (refl, cc)
    go false h = (cc, cc)

-- what reads is exactly what the writer writes
pub read_write : (s : List ℕ) (g : Segment) → read_block s ≡ done g → (s ≡ block_of g.info g.ending) × (length g.info ≤ 250) × (right g.info g.ending ≡ true)
read_write s g h =
    let r = read_done s g h in
    let whole : s ≡ block_of g.info g.ending = framed-block s r.tests ∙ rw (r.information, r.ending) in
    (whole, omega (arith, r.tests.short, ap length whole ∙ block-length g.info g.ending), rw (r.information, r.ending) at r.allowed)

-- it has as many characters as stand between STX and the last five
pub read_length : (s : List ℕ) (g : Segment) → read_block s ≡ done g → length g.info ≡ length s - 6
read_length s g h = omega (arith, ap length (read_write s g h).0 ∙ block-length g.info g.ending)

-- what is refused by its information alone is a block of information that its ending does not allow
pub read_six : (s : List ℕ) → read_block s ≡ refused 6 → (s ≡ block_of (inside s) (ending_of (ending_at s))) × (right (inside s) (ending_of (ending_at s)) ≡ false)
read_six s h =
    let (tests, e) = read-late s (refused 6) refl h in
    (framed-block s tests, go (right (inside s) (ending_of (ending_at s))) e)
  where
    go : (b : Bool) → (if not b then refused 6 else done (segment_in s)) ≡ refused 6 → b ≡ false
    go true h = cc
    go false h = refl
