-- Records removed by their trailer: what is kept, with its trailer behind it, is the journal without the chosen ones; where as many are kept, nothing was moved.
use Rattle.std.specs.Prelude.{Result, Ok, Err, IsErrAnd, if◌then◌else◌}
use mathlib.Core.Bool.{Bool, true, false, not}
use mathlib.Core.List.{List, ◌++◌, reverse, append_assoc}
use mathlib.Core.Path.{◌≡◌, sym, ap, ◌∙◌}
use Prim.Native.Nat.{ℕ, ◌+◌, ◌≤◌}
use native.Mathlib.Omega.{arith}
use borrow.Author.Tests.{eq-eqb, ne_eqb}
use lib.Dec.{ltb, eqb}
use lib.ListN.{length, take, length-reverse}
use lib.Seq.{take-take}
use Rattle.line.proofs.OutcomeLaws.{map-refused}
use Rattle.line.proofs.OverlayLaws.{overlay-none, overlay-own, overlay-start, wrote-refused, wrote-done}
use Rattle.line.specs.Answer.{done, refused, refusal_number, map_done, overlay, Wrote}
use Rattle.line.specs.Character.{byte}
use Rattle.line.specs.Test.{all}
use Rattle.line.specs.declared.answer.Refusal.{Refusal}
use Rattle.line.specs.declared.answer.Refusal.TheVariants.{Range}
use Rattle.append.proofs.TailLaws.{wrote-handed}
use Rattle.journal.proofs.RecordLaws.{encode-length}
use Rattle.journal.proofs.StorageLaws.{in_within, trailer_in_parts}
use Rattle.journal.proofs.WalkLaws.{walk-length}
use Rattle.journal.specs.Cursor.{walk_from}
use Rattle.journal.specs.Encoding.{encode, records_of}
use Rattle.journal.specs.Storage.{is_buffer, trailer_in, decode_in}
use Rattle.journal.specs.Walk.{trailer, decode}
use Rattle.journal.specs.declared.cursor.Position.{Position}
use Rattle.delete.specs.Inner.{Compacts, end_of, kept_from, removed_from, trailer_of}
use Rattle.delete.specs.declared.choice.Choice.{Choice}
use Rattle.delete.proofs.CompactionLaws.{kept_before, Compacted, walked-bytes}
use Rattle.delete.proofs.KeptLaws.{answered, kept-all, without-kept}
use Rattle.delete.proofs.MoveLaws.{overlay-longer}

-- ── Behind a compaction ──

module _ (choice : Choice) (b after : List ℕ) (p : Position) where
  -- the walk was refused
  pub removed_refused : (q : Refusal) (r : Result ℕ Refusal) → IsErrAnd r (λ x. x ≡ q) → Compacts (kept_before choice 1 b p) (Err q) b after → Wrote (map_done encode (removed_from choice b p)) r b after
  unfolding records_of
  removed_refused q r h c =
      let none : walk_from b p ≡ refused (refusal_number q) = map-refused _ (walk_from b p) _ (map-refused end_of (kept_before choice 1 b p) _ (sym c.answers)) in
      let same : after ≡ b = c.leaves ∙ rw none (sym (overlay-none b)) in
      rw same (wrote-handed q r b h (rw none))

  -- some are kept
  module _ (kept : Position) (d : Compacted choice 1 b after p kept) where
    -- the answer by how many
    answer : removed_from choice b p ≡ answered choice d.met
    answer = rw d.walk (without-kept choice d.met)

    -- as many as the trailer says where as many as were met
    counts : (kept.left ≡ length (kept_from choice 1 d.met)) × (p.left ≡ length d.met)
    counts = (sym (ap (λ (k : Position). k.left) d.ends) ∙ length-reverse (kept_from choice 1 d.met), sym (walk-length p.left (take p.end b) d.met d.walk))

    -- as many as there were: nothing was moved
    pub removed_none : all byte b ≡ true → p.end ≤ length b → kept.left ≡ p.left → Wrote (map_done encode (removed_from choice b p)) (Err Range) b after
    removed_none bytes inside same =
        let many : length (kept_from choice 1 d.met) ≡ length d.met = sym counts.0 ∙ same ∙ counts.1 in
        let records = ap (λ us. records_of (reverse us)) (kept-all choice 1 d.met many) ∙ sym (walked-bytes b p d.met bytes d.walk) in
        let stays : after ≡ b = d.laid ∙ rw records (sym (overlay-own p.end b inside)) in
        rw stays (wrote-refused Range b (rw (answer, eq-eqb _ _ many)))

    -- fewer: the trailer behind them makes them a journal
    pub removed_some : (kept.left ≡ p.left → ⊥) → Wrote (map_done encode (removed_from choice b p)) (Ok (kept.end + 4)) b (overlay (take kept.end after ++ trailer_of kept.left kept.end) after)
    unfolding encode
    removed_some other =
        let ks : List (List ℕ) = reverse (kept_from choice 1 d.met) in
        let fewer : eqb (length (kept_from choice 1 d.met)) (length d.met) ≡ false = ne_eqb _ _ λ many. other (counts.0 ∙ many ∙ sym counts.1) in
        let end : length (records_of ks) ≡ kept.end = ap (λ (k : Position). k.end) d.ends in
        let whole : take kept.end after ++ trailer_of kept.left kept.end ≡ encode ks = rw (d.laid, overlay-start (records_of ks) b kept.end end, ← d.ends, append_assoc) in
        let laid : overlay (encode ks) after ≡ overlay (encode ks) b = rw (d.laid, append_assoc) (overlay-longer b (records_of ks) _) in
        wrote-done (encode ks) _ _ _ (rw (answer, fewer)) (rw (encode-length ks, end)) (rw whole laid)

-- ── From the trailer ──

-- a trailer that is read: the journal is what the walk back from it meets
pub opened-decode : (b : List ℕ) (n : ℕ) (p : Position) → trailer_in b n ≡ done p → decode_in b n ≡ map_done reverse (walk_from b p)
unfolding trailer_in decode_in is_buffer
opened-decode b n p h =
    let (size, within, ends, _, _) = trailer_in_parts b n p h in
    let sized : is_buffer b ≡ true = eq-eqb (length b) 32004 size in
    let opened : trailer (take n b) ≡ done p = in_within trailer b n sized within ∙ h in
    sym (in_within decode b n sized within) ∙ rw (opened, take-take p.end n b (omega arith))

-- a trailer that is refused: so is the journal
pub unopened_decode : (b : List ℕ) (n k : ℕ) → trailer_in b n ≡ refused k → decode_in b n ≡ refused k
unfolding trailer_in decode_in
unopened_decode b n k h = go (is_buffer b) (ltb (length b) n) h
  where
    go : (sized short : Bool) → (if not sized then refused 1 else if short then refused 7 else trailer (take n b)) ≡ refused k →
        (if not sized then refused 1 else if short then refused 7 else decode (take n b)) ≡ refused k
    go false short h = cc
    go true true h = cc
    go true false h = rw h
