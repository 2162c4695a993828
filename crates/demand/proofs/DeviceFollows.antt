-- The device does what the model's device does: it stands at the same block of the same transaction, its verdicts are the model's, and so is each move.
use Rattle.std.specs.Prelude.{Some, None, if◌then◌else◌}
use mathlib.Core.Bool.{true}
use mathlib.Core.List.{List, [], ◌∷◌, ◌++◌}
use mathlib.Core.Path.{◌≡◌, refl, sym, ◌∙◌}
use Prim.Native.Nat.{ℕ, suc, ◌+◌, ◌≤◌, ◌<◌}
use native.Mathlib.Numerals.{add-one}
use native.Mathlib.Omega.{arith}
use borrow.Author.Tests.{lt-ltb, le-ltb, eq-eqb, ne_eqb}
use lib.Dec.{ltb, leb, leb-suc-suc}
use lib.ListN.{length, get_or, set, replicate, length-append}
use lib.Seq.{append_snoc, get_or_at, set_at}
use Rattle.line.specs.Transaction.{legal}
use Rattle.block.specs.Block.{Segment, right}
use Rattle.block.specs.Segments.{segment}
use Rattle.block.specs.declared.frame.Ending.TheVariants.{Etx}
use Rattle.journal.proofs.RecordLaws.{legal-at}
use Rattle.journal.specs.Encoding.{all_legal}
use Rattle.reply.specs.declared.Meaning.TheVariants.{IdRequest, Acceptance, Ack, Nak, Rs, Eot}
use Rattle.reply.specs.Reading.{Reply}
use Rattle.central.specs.Reaction.{Answer, nothing, idRequest, acceptance, ack, nak, rs, hangUp}
use Rattle.device.proofs.SegmentsLaws.{segments_some, segments_right}
use Rattle.device.specs.Reaction.{Move, goes, segments_of, moves, onwards, place}
use Rattle.device.specs.Step.{exists}
use Rattle.device.specs.declared.state.Step.{Step}
use Rattle.device.specs.declared.state.Step.TheVariants.{Opening, Logon, Sending, Closing, Stopped}
use Rattle.device.specs.declared.state.Verdict.{Verdict}
use Rattle.device.specs.declared.state.Verdict.TheVariants.{Accepted, Rejected, Unconfirmed, Deferred, Unsent}
use Rattle.demand.specs.Run.{Inputs, noted}
use Rattle.demand.proofs.Instance.{model, limits, parts}
use Rattle.demand.proofs.Model.{opening, loggingOn, closing, sending, stopped, Device, device, begin, acked, reads}
use Rattle.demand.proofs.Tests.{branches}

-- ── Answers ──

-- what the device reads an answer as
abbrev pub read_as : Answer → Reply
read_as nothing = None
read_as idRequest = Some IdRequest
read_as acceptance = Some Acceptance
read_as ack = Some Ack
read_as nak = Some Nak
read_as rs = Some Rs
read_as hangUp = Some Eot

-- the test of the attempts
tries : (a most : ℕ) → ltb a (most + 1) ≡ leb a most
tries a most = rw (add-one, leb-suc-suc)

-- a list of blocks that is not empty
parts_are : (gs : List Segment) → 1 ≤ length gs → gs ≡ (parts gs).first ∷ (parts gs).more
parts_are [] h = absurd (omega arith)
parts_are (g ∷ gs) h = refl

-- ── The device ──

module _ {J : Type 0} (i : Inputs J) where
  -- the model's device has `left` and `told`, the other stands at the transaction n and has the verdicts vs
  pub record Held (n : ℕ) (vs : List Verdict) (left : List (List ℕ)) (told : List Verdict) : Type 0 where
    pub done : List (List ℕ)
    pub job_is : i.job ≡ done ++ left
    pub done-is : length done ≡ n
    pub told_is : length told ≡ n
    pub all_are : vs ≡ told ++ replicate (length left) Unsent

  -- b is the block k of the transaction t, and bs follow
  pub record CutAt (t : List ℕ) (k : ℕ) (b : Segment) (bs : List Segment) : Type 0 where
    pub before : List Segment
    pub before-is : length before ≡ k
    pub blocks_are : segments_of i.device t ≡ before ++ b ∷ bs

  -- a step and verdicts, and the model's device
  pub data Same : Step → List Verdict → Device → Type 0 where
    same-opening : {a : ℕ} → Same (Opening (place 0 0 a)) (replicate (length i.job) Unsent) (device (opening a) i.job [])
    same-logon : {a : ℕ} → Same (Logon (place 0 0 a)) (replicate (length i.job) Unsent) (device (loggingOn a) i.job [])
    same-sending : {n k a : ℕ} {vs told : List Verdict} {t : List ℕ} {ts : List (List ℕ)} {b : Segment} {bs : List Segment} →
        Held n vs (t ∷ ts) told → CutAt t k b bs → Same (Sending (place n k a)) vs (device (sending b bs a) (t ∷ ts) told)
    same_closing : {a : ℕ} {vs told : List Verdict} {left : List (List ℕ)} → vs ≡ told ++ replicate (length left) Unsent →
        Same (Closing (place 0 0 a)) vs (device (closing a) left told)
    same-stopped : {vs told : List Verdict} {left : List (List ℕ)} → vs ≡ told ++ replicate (length left) Unsent →
        Same Stopped vs (device stopped left told)

  -- the start of the job
  held_start : Held 0 (replicate (length i.job) Unsent) i.job []
  held_start = record { done = []; job_is = refl; done-is = refl; told_is = refl; all_are = refl }

  -- the transaction n gets the verdict v
  held_next : {n : ℕ} {vs told : List Verdict} {t : List ℕ} {ts : List (List ℕ)} (v : Verdict) → Held n vs (t ∷ ts) told → Held (n + 1) (set vs n v) ts (told ++ v ∷ [])
  held_next {n} {vs} {told} {t} {ts} v h =
      record {
        done = h.done ++ t ∷ [];
        job_is = h.job_is ∙ sym (append_snoc h.done t ts);
        done-is = rw length-append (omega (arith, h.done-is));
        told_is = rw length-append (omega (arith, h.told_is));
        all_are = rw (h.all_are, set_at told Unsent (replicate (length ts) Unsent) v n h.told_is) (sym (append_snoc told v (replicate (length ts) Unsent)));
      }

  -- how long the job is
  held-length : {n : ℕ} {vs told : List Verdict} {left : List (List ℕ)} → Held n vs left told → length i.job ≡ n + length left
  held-length {left = left} h = rw (h.job_is, length-append) (omega (arith, h.done-is))

  -- the transaction n of the job
  held_at : {n : ℕ} {vs told : List Verdict} {t : List ℕ} {ts : List (List ℕ)} → Held n vs (t ∷ ts) told → get_or i.job n [] ≡ t
  held_at {n} {t = t} {ts = ts} h = rw h.job_is (get_or_at h.done t ts [] n h.done-is)

  -- one block more
  cut-next : {k : ℕ} {t : List ℕ} {b c : Segment} {bs : List Segment} → CutAt t k b (c ∷ bs) → CutAt t (k + 1) c bs
  cut-next {b = b} {c = c} {bs = bs} x =
      record {
        before = x.before ++ b ∷ [];
        before-is = rw length-append (omega (arith, x.before-is));
        blocks_are = x.blocks_are ∙ sym (append_snoc x.before b (c ∷ bs));
      }

  -- how many blocks the transaction has
  cut-count : {k : ℕ} {t : List ℕ} {b : Segment} {bs : List Segment} → CutAt t k b bs → length (segments_of i.device t) ≡ k + suc (length bs)
  cut-count {t = t} {b = b} {bs = bs} x = rw (x.blocks_are, length-append) (omega (arith, x.before-is))

  -- the block k of the transaction
  cut_at : {k : ℕ} {t : List ℕ} {b : Segment} {bs : List Segment} → CutAt t k b bs → get_or (segments_of i.device t) k (segment [] Etx) ≡ b
  cut_at {k} {t} {b} {bs} x = rw x.blocks_are (get_or_at x.before b bs (segment [] Etx) k x.before-is)

  -- the job is legal
  module _ (good : all_legal i.job ≡ true) where
    -- so is the transaction n
    held-legal : {n : ℕ} {vs told : List Verdict} {t : List ℕ} {ts : List (List ℕ)} → Held n vs (t ∷ ts) told → legal t ≡ true
    held-legal {n} h = rw (held_at h) at (legal-at i.job n good (omega (arith, held-length h)))

    -- on to the next transaction, or to the close
    begin-same : {n : ℕ} {vs told : List Verdict} (left : List (List ℕ)) → Held n vs left told → Same (onwards i.job n) vs (begin (model i) left told)
    unfolding begin
    begin-same {n} [] h = rw (le-ltb n (length i.job) (omega (arith, held-length h))) (same_closing h.all_are)
    begin-same {n} (t ∷ ts) h =
        let there : n < length i.job = omega (arith, held-length h) in
        rw (lt-ltb n (length i.job) there)
        (same-sending h (record { before = []; before-is = refl; blocks_are = parts_are (segments_of i.device t) (segments_some i.device t (held-legal h)) }))

    -- a move, and the model's device
    abbrev pub SameMove : List Verdict → Move → Device → Type 0
    SameMove vs m d = Same m.next (noted m.given vs) d

    -- the next block, or accepted
    acked-same : {n k : ℕ} (a : ℕ) {vs told : List Verdict} {t : List ℕ} {ts : List (List ℕ)} {b : Segment} (bs : List Segment) → Held n vs (t ∷ ts) told → CutAt t k b bs →
        SameMove vs (moves i.device i.job (Sending (place n k a)) (Some Ack)) (acked (model i) bs (t ∷ ts) told)
    unfolding acked moves
    acked-same {n} {k} a {t = t} {ts = ts} [] h x =
        rw (held_at h, eq-eqb (k + 1) (length (segments_of i.device t)) (omega (arith, cut-count x))) (begin-same ts (held_next Accepted h))
    acked-same {n} {k} a {t = t} (c ∷ bs) h x =
        rw (held_at h, ne_eqb (k + 1) (length (segments_of i.device t)) (omega (arith, cut-count x))) (same-sending h (cut-next x))

    -- the first string once more, three times at most
    opening-again : (a : ℕ) →
        let vs = replicate (length i.job) Unsent in
        SameMove vs (if ltb a 3 then goes (Opening (place 0 0 (a + 1))) else goes Stopped)
        (if ltb a 3 then device (opening (suc a)) i.job [] else device stopped i.job [])
    opening-again a = branches (SameMove (replicate (length i.job) Unsent)) (ltb a 3) (rw add-one same-opening) (same-stopped refl)

    -- the logon once more, D + 1 times at most
    logon-again : (a : ℕ) →
        let vs = replicate (length i.job) Unsent in
        SameMove vs (if ltb a (i.device.retries + 1) then goes (Logon (place 0 0 (a + 1))) else goes Stopped)
        (if leb a i.device.retries then device (loggingOn (suc a)) i.job [] else device stopped i.job [])
    logon-again a = rw (tries a i.device.retries) (branches (SameMove (replicate (length i.job) Unsent)) (leb a i.device.retries) (rw add-one same-logon) (same-stopped refl))

    -- the close once more
    again_closing : (a : ℕ) {vs told : List Verdict} {left : List (List ℕ)} → vs ≡ told ++ replicate (length left) Unsent →
        Same (Closing (place 0 0 (a + 1))) vs (device (closing (suc a)) left told)
    again_closing a e = rw add-one (same_closing e)

    -- the block once more
    again-sending : {n k : ℕ} (a : ℕ) {vs told : List Verdict} {t : List ℕ} {ts : List (List ℕ)} {b : Segment} {bs : List Segment} →
        Held n vs (t ∷ ts) told → CutAt t k b bs → Same (Sending (place n k (a + 1))) vs (device (sending b bs (suc a)) (t ∷ ts) told)
    again-sending a h x = rw add-one (same-sending h x)

    -- an answer moves both alike
    pub moves-same : (x : Answer) {step : Step} {vs : List Verdict} {d : Device} → Same step vs d →
        SameMove vs (moves i.device i.job step (read_as x)) (reads (model i) (limits i) x d)
    unfolding moves reads
    moves-same nothing (same-opening {a}) = opening-again a
    moves-same idRequest same-opening = same-logon
    moves-same acceptance (same-opening {a}) = opening-again a
    moves-same ack (same-opening {a}) = opening-again a
    moves-same nak (same-opening {a}) = opening-again a
    moves-same rs (same-opening {a}) = opening-again a
    moves-same hangUp (same-opening {a}) = opening-again a
    moves-same nothing same-logon = same-stopped refl
    moves-same idRequest (same-logon {a}) = logon-again a
    moves-same acceptance same-logon = begin-same i.job held_start
    moves-same ack same-logon = same-stopped refl
    moves-same nak (same-logon {a}) = logon-again a
    moves-same rs same-logon = same-stopped refl
    moves-same hangUp same-logon = same-stopped refl
    moves-same ack (same-sending {a} {bs} h x) = acked-same a bs h x
    moves-same rs (same-sending {ts} h x) = begin-same ts (held_next Rejected h)
    moves-same nak (same-sending {a} {vs} h x) =
        rw (tries a i.device.retries) (branches (SameMove vs) (leb a i.device.retries) (again-sending a h x) (same-stopped (held_next Deferred h).all_are))
    moves-same hangUp (same-sending h x) = same-stopped (held_next Deferred h).all_are
    moves-same nothing (same-sending h x) = same-stopped (held_next Unconfirmed h).all_are
    moves-same idRequest (same-sending h x) = same-stopped (held_next Unconfirmed h).all_are
    moves-same acceptance (same-sending h x) = same-stopped (held_next Unconfirmed h).all_are
    moves-same nothing (same_closing e) = same-stopped e
    moves-same idRequest (same_closing e) = same-stopped e
    moves-same acceptance (same_closing e) = same-stopped e
    moves-same ack (same_closing e) = same-stopped e
    moves-same nak (same_closing {a} {vs} e) =
        rw (tries a i.device.retries) (branches (SameMove vs) (leb a i.device.retries) (again_closing a e) (same-stopped e))
    moves-same rs (same_closing e) = same-stopped e
    moves-same hangUp (same_closing e) = same-stopped e
    moves-same x (same-stopped e) = same-stopped e

    -- ── What is sent ──

    -- the place exists in the job
    pub same-exists : {step : Step} {vs : List Verdict} {d : Device} → Same step vs d → exists i.device i.job step ≡ true
    same-exists same-opening = refl
    same-exists same-logon = refl
    same-exists (same-sending {n} {k} {t = t} h x) =
        rw (held_at h, lt-ltb n (length i.job) (omega (arith, held-length h)), lt-ltb k (length (segments_of i.device t)) (omega (arith, cut-count x)))
    same-exists (same_closing e) = refl
    same-exists (same-stopped e) = refl

    -- the block of a sending step: the model's, and right
    pub same_block : {n k : ℕ} {vs told : List Verdict} {t : List ℕ} {ts : List (List ℕ)} {b : Segment} {bs : List Segment} → Held n vs (t ∷ ts) told → CutAt t k b bs →
        (get_or (segments_of i.device (get_or i.job n [])) k (segment [] Etx) ≡ b) × (length b.info ≤ 250) × (right b.info b.ending ≡ true)
    same_block {n} {k} {t = t} h x =
        let (short, good) = rw (cut_at x) at (segments_right i.device t (held-legal h) k (omega (arith, cut-count x))) in
        (rw (held_at h) (cut_at x), short, good)
