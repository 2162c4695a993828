-- `read` meets its contract: each return is the case of `read_block` that the tests before it leave.
use Rattle.std.specs.Prelude.{ℕ, List, if◌then◌else◌}
use mathlib.Core.Bool.{Bool, true, false, not, ◌&&◌, and-false}
use mathlib.Core.Path.{◌≡◌, refl, sym, ◌∙◌}
use borrow.Author.Tests.{lt-leb, le-leb}
use lib.Dec.{leb}
use lib.ListN.{length}
use Rattle.line.specs.Character.{seven}
use Rattle.std.proofs.lemmas.Result.{err_from_is_err_and}
use Rattle.line.specs.Answer.{done, refused, refusal_number}
use Rattle.line.specs.declared.answer.Refusal.{Refusal}
use Rattle.line.proofs.OutcomeLaws.{met}
use Rattle.line.specs.Test.{all}
use Rattle.block.specs.Block.{ending_at, ending_in, ending_of, ends, inside, framed, right, summing, read_block}
use Rattle.block.specs.declared.frame.Ending.{Ending}
use Rattle.block.proofs.FrameLaws.{inside-part}
use Rattle.block.proofs.frame.read.Goals as goal

-- what passes all tests but that of its information is a block if that is right
judged : (s : List ℕ) (e : Ending) → (leb 6 (length s) && leb (length s) 256) ≡ true → all seven s ≡ true → framed s ≡ true → summing s ≡ true → e ≡ ending_of (ending_at s) →
    read_block s ≡ (if not (right (inside s) e) then refused 6 else done (record { info = inside s; ending = e }))
unfolding read_block
judged s e within narrow frame check is = rw (within, narrow, frame, check, is)

-- a character that is refused as an ending is none
unended : (c : ℕ) (q : Refusal) → refused (refusal_number q) ≡ ending_in c → (ends c ≡ false) × (refusal_number q ≡ 4)
unended c q h = go (ends c) h
  where
    go : (b : Bool) → refused (refusal_number q) ≡ (if b then done (ending_of c) else refused 4) → (b ≡ false) × (refusal_number q ≡ 4)
    go true h = (cc, cc)
    go false h = (refl, cc)

-- and any other is the ending that was found
ended : (c : ℕ) (e : Ending) → done e ≡ ending_in c → (ends c ≡ true) × (e ≡ ending_of c)
ended c e h =
    let (is, same) = met (ends c) 4 (done (ending_of c)) e (sym h) in
    (is, cc)

-- without an ending there is no frame
unframed : (s : List ℕ) → ends (ending_at s) ≡ false → framed s ≡ false
unfolding framed
unframed s h = rw (h, and-false)

pub returns-then-n-lt-OVERHEAD : goal.returns-then-n-lt-OVERHEAD
unfolding read_block
returns-then-n-lt-OVERHEAD c = rw (lt-leb 6 _ c.if-n-lt-OVERHEAD.true)

pub returns-then-n : goal.returns-then-n
unfolding read_block
returns-then-n c = rw (le-leb 6 _ c.if-n-lt-OVERHEAD.false, lt-leb _ 256 c.if-n.true)

pub returns-then-not-are : goal.returns-then-not-are
unfolding read_block
returns-then-not-are c =
    let within : (let n = length c.args.s.now in (leb 6 n && leb n 256) ≡ true) = rw (le-leb 6 _ c.if-n-lt-OVERHEAD.false, le-leb _ 256 c.if-n.false) in
    let wide = sym c.are.ensures ∙ c.if-not-are.true in
    rw (within, wide)

pub returns-in_err-ending : goal.returns-in_err-ending
unfolding read_block
returns-in_err-ending c =
    let within : (let n = length c.args.s.now in (leb 6 n && leb n 256) ≡ true) = rw (le-leb 6 _ c.if-n-lt-OVERHEAD.false, le-leb _ 256 c.if-n.false) in
    let narrow : all seven c.args.s.now ≡ true = sym c.are.ensures ∙ c.if-not-are.false in
    let p = err_from_is_err_and c.from_residual.result c.from_residual.ensures.1 in
    let (none, four) = unended (ending_at c.args.s.now) c.in_err-ending.field-0.0 c.in_err-ending.ensures in
    rw (p.1, p.2, four, within, narrow, unframed c.args.s.now none)

pub is_framed-requires : goal.is_framed-requires
is_framed-requires c = (c.if-n-lt-OVERHEAD.false, (ended (ending_at c.args.s.now) c.in_ok-ending.ending c.in_ok-ending.ensures).0)

pub returns-then-not-is_framed : goal.returns-then-not-is_framed
unfolding read_block
returns-then-not-is_framed c =
    let within : (let n = length c.args.s.now in (leb 6 n && leb n 256) ≡ true) = rw (le-leb 6 _ c.if-n-lt-OVERHEAD.false, le-leb _ 256 c.if-n.false) in
    let narrow : all seven c.args.s.now ≡ true = sym c.are.ensures ∙ c.if-not-are.false in
    let wrong = sym c.is_framed.ensures ∙ c.if-not-is_framed.true in
    rw (within, narrow, wrong)

pub returns-then-not-is_summed : goal.returns-then-not-is_summed
unfolding read_block
returns-then-not-is_summed c =
    let within : (let n = length c.args.s.now in (leb 6 n && leb n 256) ≡ true) = rw (le-leb 6 _ c.if-n-lt-OVERHEAD.false, le-leb _ 256 c.if-n.false) in
    let narrow : all seven c.args.s.now ≡ true = sym c.are.ensures ∙ c.if-not-are.false in
    let frame : framed c.args.s.now ≡ true = sym c.is_framed.ensures ∙ c.if-not-is_framed.false in
    let wrong = sym c.is_summed.ensures ∙ c.if-not-is_summed.true in
    rw (within, narrow, frame, wrong)

pub returns-else-is_right : goal.returns-else-is_right
returns-else-is_right c =
    let s = c.args.s.now in
    let within : (let n = length s in (leb 6 n && leb n 256) ≡ true) = rw (le-leb 6 _ c.if-n-lt-OVERHEAD.false, le-leb _ 256 c.if-n.false) in
    let narrow = sym c.are.ensures ∙ c.if-not-are.false in
    let frame = sym c.is_framed.ensures ∙ c.if-not-is_framed.false in
    let check = sym c.is_summed.ensures ∙ c.if-not-is_summed.false in
    rw (judged s _ within narrow frame check (ended (ending_at c.args.s.now) c.in_ok-ending.ending c.in_ok-ending.ensures).1, ← inside-part s, ← c.is_right.ensures, c.if-is_right.false)

pub returns-then-is_right : goal.returns-then-is_right
returns-then-is_right c =
    let s = c.args.s.now in
    let within : (let n = length s in (leb 6 n && leb n 256) ≡ true) = rw (le-leb 6 _ c.if-n-lt-OVERHEAD.false, le-leb _ 256 c.if-n.false) in
    let narrow = sym c.are.ensures ∙ c.if-not-are.false in
    let frame = sym c.is_framed.ensures ∙ c.if-not-is_framed.false in
    let check = sym c.is_summed.ensures ∙ c.if-not-is_summed.false in
    rw (judged s _ within narrow frame check (ended (ending_at c.args.s.now) c.in_ok-ending.ending c.in_ok-ending.ensures).1, ← inside-part s, ← c.is_right.ensures, c.if-is_right.true)
