-- Laws of reassembly: every legal segmentation of a transaction is joined to that transaction again, and no other blocks are; a state is in range exactly if the start leads to it;
-- and the ways to have `Joined` of a step. All of them go by what one step does to what has been joined so far.
use Rattle.std.specs.Prelude.{Ok, Err, if◌then◌else◌}
use mathlib.Core.Bool.{Bool, true, false, not, false≢true, and-eq-true_iff}
use mathlib.Core.List.{List, [], ◌∷◌, ◌++◌, map, append_assoc}
use mathlib.Core.Path.{◌≡◌, refl, sym, ap, subst, ◌∙◌}
use Prim.Native.Nat.{ℕ, zero, suc, ◌+◌, ◌-◌, ◌≤◌, ◌<◌}
use native.Mathlib.Nat.{zero-add}
use native.Mathlib.Numerals.{add-one}
use native.Mathlib.Omega.{arith}
use borrow.Author.Tests.{le-leb, le-ltb, leb-true, ltb-false, not-true, not-false}
use lib.Dec.{eqb, leb, ltb}
use lib.ListN.{length, get_or, take, length-append}
use lib.Seq.{length-take-le, take-suc}
use Rattle.line.specs.Answer.{Outcome, done, refused, refusal_number, map_done, and_then, output, overlay}
use Rattle.line.specs.Character.{CR, textual}
use Rattle.line.specs.Test.{all}
use Rattle.line.specs.Transaction.{Transaction, ends_in_cr}
use Rattle.line.specs.declared.answer.Refusal.{Refusal}
use Rattle.line.proofs.AllLaws.{all_append}
use Rattle.line.proofs.OutcomeLaws.{passed, map-done, then_done, choice}
use Rattle.line.proofs.OverlayLaws.{overlay-none, overlay-length, overlay-start, overlay-own}
use Rattle.line.proofs.TransactionLaws.{legal-transaction, ends-append, ends-joined}
use Rattle.block.specs.Block.{Segment, right, agrees, block_of, read_block, inside}
use Rattle.block.specs.Segments.{segment, segment_block, continues, Joins, last, more, LegalSegmentation}
use Rattle.block.specs.declared.frame.Ending.{Ending}
use Rattle.block.specs.declared.frame.Ending.TheVariants.{Etx, Etb, Us}
use Rattle.block.proofs.FrameLaws.{block-length, write_read, read_done, read_write, read_length}
use Rattle.block.proofs.SegmentsLaws.{last-ends, joined-textual, joined-legal}
use Rattle.reassembly.specs.Reassembly.{so_far, in_range, Progress, join, join_block, Joined, start, rejoin, Reached, begun, onward}
use Rattle.reassembly.specs.declared.Reassembly.{Reassembly}

-- so many characters joined, the whole transaction or not, and which they are
abbrev progress : ℕ → Bool → List ℕ → Progress
progress n complete joined = record { state = record { length = n; complete = complete }; joined = joined }

-- a state in the midst of a transaction, with so many characters joined
abbrev midst : ℕ → Reassembly
midst n = record { length = n; complete = false }

-- a block that is right for its ending is joined to what has been joined so far
join-right : (u info : List ℕ) (e : Ending) (buffer : List ℕ) → take (length u) buffer ≡ u → all textual u ≡ true → 2000 ≤ length buffer →
    length u + length info ≤ 2000 → length info ≤ 250 → right info e ≡ true →
    join_block (midst (length u)) buffer (block_of info e) ≡ done (progress (length u + length info) (not (continues e)) (u ++ info))
unfolding join_block
join-right u info e buffer holds text room fits short good =
    let size : length info + 6 - 6 ≡ length info = omega arith in
    rw (le-leb (length u) 2000 (omega arith), holds, text, le-ltb (length buffer) 2000 room, block-length, size, le-ltb 2000 (length u + length info) fits, write_read info e short good, holds)

-- ── Every legal segmentation rejoins ──

-- behind what has been joined comes what the segments join to
rejoins-behind : {ss : List Segment} {t : List ℕ} → Joins ss t → (u buffer : List ℕ) → take (length u) buffer ≡ u → all textual u ≡ true →
    2000 ≤ length buffer → length u + length t ≤ 2000 →
    rejoin (midst (length u)) buffer (map segment_block ss) ≡ done (progress (length u + length t) true (u ++ t))
unfolding rejoin
rejoins-behind (last {info} short good) u buffer holds text room fits =
    rw (join-right u info Etx buffer holds text room fits short good, overlay-start (u ++ info) buffer (length u + length info) (length-append u info))
rejoins-behind (more {info} {t} {e} short good goes_on_lem rest) u buffer holds text room fits =
    let joined = u ++ info in
    let size = length-append u info in
    let sizes = length-append info t in
    let total : length u + length (info ++ t) ≡ length joined + length t = omega arith in
    let text-joined = joined-textual u info e text good in
    let room_joined : 2000 ≤ length (overlay joined buffer) = rw (overlay-length joined buffer (omega arith)) room in
    let behind = rejoins-behind rest joined (overlay joined buffer) (overlay-start joined buffer (length joined) refl) text-joined room_joined (omega arith) in
    rw (join-right u info e buffer holds text room (omega arith) short good, goes_on_lem, ← size, total, ← append_assoc) behind

-- every legal segmentation is joined to the transaction that it was cut from
pub rejoins : {ss : List Segment} {t : List ℕ} → LegalSegmentation ss t → (buffer : List ℕ) → 2000 ≤ length buffer →
    rejoin start buffer (map segment_block ss) ≡ done (record { state = record { length = length t; complete = true }; joined = t })
unfolding all
rejoins legal buffer room = rw zero-add at (rejoins-behind legal.joins [] buffer refl refl room (omega arith))

-- ── A step keeps the state in range ──

-- in a state in range at most 2,000 characters have been joined, all of them those of a transaction, and a complete one ends in CR
pub in_range-parts : (r : Reassembly) (buffer : List ℕ) → in_range r buffer ≡ true →
    (r.length ≤ 2000) × (all textual (so_far r buffer) ≡ true) × ((if r.complete then ends_in_cr (so_far r buffer) else true) ≡ true)
in_range-parts r buffer h =
    let (bounds, end) = (and-eq-true_iff _ (if r.complete then ends_in_cr (so_far r buffer) else true)).0 h in
    let (bound, text) = (and-eq-true_iff (leb r.length 2000) (all textual (so_far r buffer))).0 bounds in
    (leb-true r.length 2000 bound, text, end)

-- a step that is done: what it has read, what its tests say of that and of what was joined before, and what it makes
record Step (r : Reassembly) (buffer s : List ℕ) (p : Progress) : Type 0 where
  read : Segment
  reads : read_block s ≡ done read
  going : r.complete ≡ false
  text : all textual (so_far r buffer) ≡ true
  size : length (so_far r buffer) ≡ r.length
  fits : r.length + length read.info ≤ 2000
  good : right read.info read.ending ≡ true
  makes : progress (r.length + length read.info) (not (continues read.ending)) (so_far r buffer ++ read.info) ≡ p

-- a step that is done is such a step
step : (r : Reassembly) (buffer s : List ℕ) (p : Progress) → join_block r buffer s ≡ done p → Step r buffer s p
unfolding join_block
step r buffer s p h =
    let whole = r.length + (length s - 6) in
    let (out, ranged) = passed (not (in_range r buffer)) 9 _ _ h in
    let (short, roomy) = passed (ltb (length buffer) 2000) 1 _ _ ranged in
    let (over, fitting) = passed (ltb 2000 whole) 2 _ _ roomy in
    let (g, reads, joins) = then_done (read_block s) (join r buffer) p fitting in
    let (going, makes) = passed r.complete 6 _ _ joins in
    let (few, text, _) = in_range-parts r buffer (not-false (in_range r buffer) out) in
    let room = ltb-false (length buffer) 2000 short in
    let within = ltb-false 2000 whole over in
    record {
      read = g;
      reads = reads;
      going = going;
      text = text;
      size = length-take-le r.length buffer (omega arith);
      fits = omega (arith, read_length s g reads);
      good = (read_write s g reads).2;
      makes = cc;
    }

-- where the transaction does not go on behind the ending, all that is joined ends in CR
ended : (u info : List ℕ) (e : Ending) → right info e ≡ true → (if not (continues e) then ends_in_cr (u ++ info) else true) ≡ true
ended u info e good = choice (λ x. x ≡ true) (not (continues e)) (λ q. ends-joined u info (last-ends info e good (not-true (continues e) q))) (λ _. refl)

-- a step keeps the state in range, and what is complete is a transaction
pub join-legal : (r : Reassembly) (buffer s : List ℕ) (p : Progress) → join_block r buffer s ≡ done p →
    (in_range p.state (overlay p.joined buffer) ≡ true) × (p.state.complete ≡ true → Transaction p.joined)
join-legal r buffer s p h =
    let t = step r buffer s p h in
    let u = so_far r buffer in
    let info = t.read.info in
    let e = t.read.ending in
    let n = r.length + length info in
    let size : length (u ++ info) ≡ n = length-append u info ∙ rw t.size in
    let text = joined-textual u info e t.text t.good in
    rw (← t.makes) (
      rw (overlay-start (u ++ info) buffer n size, le-leb n 2000 t.fits, text, ended u info e t.good),
      λ complete. legal-transaction (u ++ info) (joined-legal u info e t.text t.good (not-true (continues e) complete) (rw size t.fits)),
    )

-- ── Only legal segmentations rejoin ──

-- the last of the blocks
joins-last : (info : List ℕ) (e : Ending) → length info ≤ 250 → right info e ≡ true → continues e ≡ false → Joins (segment info e ∷ []) info
joins-last info Etx short good h = last short good
joins-last info Etb short good h = absurd (false≢true (sym h))
joins-last info Us short good h = absurd (false≢true (sym h))

-- nothing is joined behind a complete transaction
complete-last : (r : Reassembly) (buffer : List ℕ) (bs : List (List ℕ)) (p : Progress) → r.complete ≡ true → rejoin r buffer bs ≡ done p → (bs ≡ []) × (p.joined ≡ so_far r buffer)
unfolding rejoin
complete-last r buffer [] p c h = (refl, sym (ap (λ o. output (map_done (λ q. q.joined) o)) h))
complete-last r buffer (s ∷ bs) p c h =
    let (q, joins, _) = then_done (join_block r buffer s) _ p h in
    absurd (false≢true (sym (step r buffer s q joins).going ∙ c))

-- the blocks are those of segments that join to what the transaction has behind u
abbrev Cut : List (List ℕ) → List ℕ → List ℕ → Type 0
Cut bs u whole = (ss : List Segment) × (t : List ℕ) × (bs ≡ map segment_block ss) × Joins ss t × (whole ≡ u ++ t) × Transaction whole

-- a block that is joined, and the blocks behind it
cut-more : (r : Reassembly) (buffer s : List ℕ) (q : Progress) (bs : List (List ℕ)) (p : Progress) → join_block r buffer s ≡ done q → rejoin q.state (overlay q.joined buffer) bs ≡ done p →
    (q.state.complete ≡ false → Cut bs (so_far q.state (overlay q.joined buffer)) p.joined) → Cut (s ∷ bs) (so_far r buffer) p.joined
cut-more r buffer s q bs p joined rest further = go (continues g.ending) refl
  where
    d : Step r buffer s q
    d = step r buffer s q joined

    g : Segment
    g = d.read

    u : List ℕ
    u = so_far r buffer

    whole : q.joined ≡ u ++ g.info
    whole = sym (ap (λ x. x.joined) d.makes)

    size : length q.joined ≡ q.state.length
    size = ap length whole ∙ length-append u g.info ∙ rw d.size (ap (λ x. x.state.length) d.makes)

    holds : so_far q.state (overlay q.joined buffer) ≡ u ++ g.info
    holds = overlay-start q.joined buffer q.state.length size ∙ whole

    ends : q.state.complete ≡ not (continues g.ending)
    ends = sym (ap (λ x. x.state.complete) d.makes)

    go : (b : Bool) → continues g.ending ≡ b → Cut (s ∷ bs) u p.joined
    go false e =
        let (block, short, good) = read_write s g d.reads in
        let (none, same) = complete-last q.state (overlay q.joined buffer) bs p (ends ∙ rw e) rest in
        let transaction = (join-legal r buffer s q joined).1 (ends ∙ rw e) in
        (g ∷ [], g.info, rw none (ap (λ x. x ∷ []) block), joins-last g.info g.ending short good e, same ∙ holds, rw (same ∙ holds, ← whole) transaction)
    go true e =
        let (block, short, good) = read_write s g d.reads in
        let (ss, t, blocks, joins, same, transaction) = further (ends ∙ rw e) in
        (g ∷ ss, g.info ++ t, rw (← blocks) (ap (λ x. x ∷ bs) block), more short good e joins, same ∙ rw holds (append_assoc u g.info t), transaction)

-- blocks that make a transaction complete behind what has been joined
only_joins : (r : Reassembly) (buffer : List ℕ) (bs : List (List ℕ)) (p : Progress) → r.complete ≡ false → rejoin r buffer bs ≡ done p → p.state.complete ≡ true → Cut bs (so_far r buffer) p.joined
unfolding rejoin
only_joins r buffer [] p going h c = absurd (false≢true cc)
only_joins r buffer (s ∷ bs) p going h c =
    let (q, joins, rest) = then_done (join_block r buffer s) _ p h in
    cut-more r buffer s q bs p joins rest λ goes. only_joins q.state (overlay q.joined buffer) bs p goes rest c

-- blocks from which a transaction is joined are a legal segmentation of it
pub rejoined_legal : (buffer : List ℕ) (bs : List (List ℕ)) (t : List ℕ) → rejoin start buffer bs ≡ done (record { state = record { length = length t; complete = true }; joined = t }) →
    (ss : List Segment) × (bs ≡ map segment_block ss) × LegalSegmentation ss t
rejoined_legal buffer bs t h =
    let (ss, u, blocks, joins, same, transaction) = only_joins start buffer bs _ refl h refl in
    (ss, blocks, record { transaction = transaction; joins = subst (Joins ss) (sym same) joins })

-- ── The start leads to the states in range, and to no others ──

-- to what the start leads is in range
pub reached_in_range : {r : Reassembly} {buffer : List ℕ} → Reached r buffer → in_range r buffer ≡ true
unfolding all
reached_in_range (begun buffer) = refl
reached_in_range (onward {r} {buffer} {p} before s joins) = (join-legal r buffer s p joins).0

-- a block of the character that lies next in the buffer leaves the buffer as it is
reach_next : (buffer : List ℕ) (n : ℕ) (e : Ending) → 2000 ≤ length buffer → n < 2000 → all textual (take n buffer) ≡ true → right (get_or buffer n 0 ∷ []) e ≡ true →
    Reached (midst n) buffer → Reached (record { length = suc n; complete = not (continues e) }) buffer
reach_next buffer n e room few text good before =
    let u = take n buffer in
    let c = get_or buffer n 0 in
    let size : length u ≡ n = length-take-le n buffer (omega arith) in
    let next : u ++ c ∷ [] ≡ take (suc n) buffer = sym (take-suc buffer n 0 (omega arith)) in
    let joins = rw size at (join-right u (c ∷ []) e buffer (rw size) text room (omega arith) (omega arith) good) in
    rw (next, ← overlay-own (suc n) buffer (omega arith), add-one) at (onward before (block_of (c ∷ []) e) joins)

-- the characters before the last, and the last
module _ (buffer : List ℕ) (n : ℕ) (h : n < length buffer) (text : all textual (take (suc n) buffer) ≡ true) where
  -- each of them is a character of a transaction
  last-textual : (all textual (take n buffer) ≡ true) × (all textual (get_or buffer n 0 ∷ []) ≡ true)
  last-textual = (and-eq-true_iff _ _).0 (rw (take-suc buffer n 0 h, all_append) at text)

  -- the last may end a block that is not the last
  inner : (e : Ending) × (right (get_or buffer n 0 ∷ []) e ≡ true) × (continues e ≡ true)
  unfolding agrees ends_in_cr
  inner = go (eqb (get_or buffer n 0) CR) refl
    where
      go : (b : Bool) → eqb (get_or buffer n 0) CR ≡ b → (e : Ending) × (right (get_or buffer n 0 ∷ []) e ≡ true) × (continues e ≡ true)
      go true e = (Etb, rw (last-textual.1, e), refl)
      go false e = (Us, rw (last-textual.1, e), refl)

-- the start leads into the midst of a transaction, a character a block
reach_midst : (buffer : List ℕ) (n : ℕ) → 2000 ≤ length buffer → n ≤ 2000 → all textual (take n buffer) ≡ true → Reached (midst n) buffer
reach_midst buffer zero room few text = begun buffer
reach_midst buffer (suc n) room few text =
    let (e, good, goes_on_lem) = inner buffer n (omega arith) text in
    let before = (last-textual buffer n (omega arith) text).0 in
    rw goes_on_lem at (reach_next buffer n e room (omega arith) before good (reach_midst buffer n room (omega arith) before))

-- the start leads to every state in range
pub in_range-reached : (r : Reassembly) (buffer : List ℕ) → 2000 ≤ length buffer → in_range r buffer ≡ true → Reached r buffer
unfolding agrees ends_in_cr
in_range-reached r buffer room h =
    let (few, text, end) = in_range-parts r buffer h in
    go r.length r.complete few text end
  where
    go : (n : ℕ) (b : Bool) → n ≤ 2000 → all textual (take n buffer) ≡ true → (if b then ends_in_cr (take n buffer) else true) ≡ true → Reached (record { length = n; complete = b }) buffer
    go n false few text end = reach_midst buffer n room few text
    go zero true few text end = absurd (false≢true end)
    go (suc n) true few text end =
        let (before, here) = last-textual buffer n (omega arith) text in
        let cr : ends_in_cr (get_or buffer n 0 ∷ []) ≡ true = rw (take-suc buffer n 0 (omega arith), ends-append) at end in
        reach_next buffer n Etx room few before (rw (here, cr)) (reach_midst buffer n room (omega arith) before)

-- ── What a step owes ──

-- past the tests of the state, the buffer and the whole length, the reader and the state decide
pub join-tested : (r : Reassembly) (buffer s : List ℕ) → in_range r buffer ≡ true → 2000 ≤ length buffer → r.length + (length s - 6) ≤ 2000 →
    join_block r buffer s ≡ and_then (read_block s) (join r buffer)
unfolding join_block
join-tested r buffer s ranged room fits = rw (ranged, le-ltb (length buffer) 2000 room, le-ltb 2000 (r.length + (length s - 6)) fits)

-- what the reader finds is joined, and has as many characters as stand between STX and the last five
pub join-found : (r : Reassembly) (buffer s info : List ℕ) (e : Ending) → done e ≡ map_done (λ g. g.ending) (read_block s) → info ≡ inside s →
    (length info ≡ length s - 6) × (and_then (read_block s) (join r buffer) ≡ join r buffer (segment info e))
join-found r buffer s info e h k =
    let (g, reads, same) = map-done (λ g. g.ending) (read_block s) e (sym h) in
    let found : info ≡ g.info = k ∙ (read_done s g reads).information in
    (rw found (read_length s g reads), rw (reads, found, same))

-- a refusal that leaves the buffer alone
pub joined-refused : {o : Outcome Progress} (r : Refusal) (buffer : List ℕ) → o ≡ refused (refusal_number r) → Joined o (Err r) buffer buffer
joined-refused r buffer e = record { answers = rw e; leaves = rw e (overlay-none buffer) }

-- a state, with what was laid over the start
pub joined-next : {o : Outcome Progress} (p : Progress) (before after : List ℕ) → o ≡ done p → after ≡ overlay p.joined before → Joined o (Ok p.state) before after
joined-next p before after e l = record { answers = rw e; leaves = rw e l }
