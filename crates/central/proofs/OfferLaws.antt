-- The central joins every legal segmentation: each block is heard as it was meant and put behind those before it, and at the end the whole decides.
use Rattle.std.specs.Prelude.{if◌then◌else◌}
use mathlib.Core.Bool.{true, false}
use mathlib.Core.List.{List, [], ◌∷◌, ◌++◌, map, append_assoc}
use mathlib.Core.Path.{◌≡◌, refl, sym, ap, subst, ◌∙◌}
use Prim.Native.Nat.{ℕ, ◌≤◌}
use native.Mathlib.Omega.{arith}
use borrow.Author.Tests.{le-ltb}
use lib.Dec.{ltb}
use lib.ListN.{length, replicate, length-append}
use Rattle.line.proofs.OutcomeLaws.{choice}
use Rattle.block.proofs.FrameLaws.{block-length, read_done, write_read}
use Rattle.block.specs.Block.{Segment, right}
use Rattle.block.specs.Segments.{segment, continues, Joins, last, more, LegalSegmentation}
use Rattle.block.specs.declared.frame.Ending.{Ending}
use Rattle.block.specs.declared.frame.Ending.TheVariants.{Etx}
use Rattle.admission.proofs.ContentLaws.{admits-parts}
use Rattle.central.proofs.HearingLaws.{sent-heard, block-heard}
use Rattle.central.specs.Hearing.{heard, block}
use Rattle.central.specs.Offer.{Offered, acknowledges, block_string, responds, offers}
use Rattle.central.specs.Reaction.{ack, Rules, meets, Central, Reaction, at, takes, reacts}
use Rattle.central.specs.declared.state.Stage.TheVariants.{Block}

-- a block that is right is heard as its information and its ending
string-heard : (info : List ℕ) (e : Ending) → length info ≤ 250 → right info e ≡ true → heard Block (block_string (segment info e)) ≡ block (segment info e)
string-heard info e short good =
    let long = block-length info e in
    sent-heard Block _ (read_done _ _ (write_read info e short good)).tests.narrow (omega arith) (omega arith) ∙ block-heard info e short good

-- the central waits for blocks, over a journal j
module _ {J : Type 0} (r : Rules J) (j : J) where
  -- after f failures in a row, with this information unfinished
  abbrev waits : ℕ → List ℕ → Central J
  waits f p = record { stage = Block; failures = f; pending = p; journal = j }

  -- what it does with a block that is right
  block-taken : (f : ℕ) (p info : List ℕ) (e : Ending) → length info ≤ 250 → right info e ≡ true →
      responds r (waits f p) (block_string (segment info e)) ≡ takes r (waits f p) (p ++ info) (continues e)
  unfolding reacts
  block-taken f p info e short good = rw (string-heard info e short good)

  -- what the blocks come to where the transaction is admitted
  abbrev Stored : List ℕ → List Segment → Offered J → Type 0
  Stored t ss o = (o.central ≡ at Block [] (r.storage.put j t)) × (o.answers ≡ replicate (length ss) ack)

  -- and where it is not
  abbrev Dropped : Offered J → Type 0
  Dropped o = o.central ≡ at Block [] j

  -- on to the strings behind a reaction, where it acknowledges
  abbrev further : Reaction J → List (List ℕ) → Offered J
  further x strings =
      if acknowledges x.answer then record { central = (offers r x.next strings).central; answers = x.answer ∷ (offers r x.next strings).answers }
      else record { central = x.next; answers = x.answer ∷ [] }

  -- blocks that join to what an admitted transaction has behind p
  stores-all : (f : ℕ) (p : List ℕ) {ss : List Segment} {t : List ℕ} → Joins ss t → meets r j (p ++ t) ≡ true → Stored (p ++ t) ss (offers r (waits f p) (map block_string ss))
  unfolding offers
  stores-all f p (last {info} short good) fits =
      let within = (admits-parts r.longest r.pagers r.storage j (p ++ info) fits).0.within in
      rw (block-taken f p info Etx short good, le-ltb r.longest (length (p ++ info)) within, fits) (refl, refl)
  stores-all f p (more {info} {t} {e} short good goes_on_lem rest) fits =
      let whole = append_assoc p info t in
      let all = subst (λ u. meets r j u ≡ true) (sym whole) fits in
      let within = (admits-parts r.longest r.pagers r.storage j ((p ++ info) ++ t) all).0.within in
      let (central, answers) = stores-all 0 (p ++ info) rest all in
      rw (block-taken f p info e short good, goes_on_lem, le-ltb r.longest (length (p ++ info)) (omega (arith, length-append (p ++ info) t)))
      (central ∙ ap (λ u. at Block [] (r.storage.put j u)) whole, ap (λ others. ack ∷ others) answers)

  -- blocks that join to what a transaction that is not admitted has behind p
  drops-all : (f : ℕ) (p : List ℕ) {ss : List Segment} {t : List ℕ} → Joins ss t → meets r j (p ++ t) ≡ false → Dropped (offers r (waits f p) (map block_string ss))
  unfolding offers
  drops-all f p (last {info} short good) unfit =
      rw (block-taken f p info Etx short good, unfit) (choice (λ x. Dropped (further x [])) (ltb r.longest (length (p ++ info))) (λ o. refl) (λ o. refl))
  drops-all f p (more {info} {t} {e} {ss} short good goes_on_lem rest) unfit =
      let all = subst (λ u. meets r j u ≡ false) (sym (append_assoc p info t)) unfit in
      rw (block-taken f p info e short good, goes_on_lem)
      (choice (λ x. Dropped (further x (map block_string ss))) (ltb r.longest (length (p ++ info))) (λ o. refl) (λ o. drops-all 0 (p ++ info) rest all))

-- from the Block stage with nothing pending
module _ {J : Type 0} (r : Rules J) (j : J) (f : ℕ) {ss : List Segment} {t : List ℕ} (legal : LegalSegmentation ss t) where
  -- the blocks of any legal segmentation of an admitted transaction are each acknowledged, and leave exactly that transaction appended
  pub segmentation-stored : meets r j t ≡ true →
      let o = offers r (record { stage = Block; failures = f; pending = []; journal = j }) (map block_string ss) in
      (o.central ≡ at Block [] (r.storage.put j t)) × (o.answers ≡ replicate (length ss) ack)
  segmentation-stored fits = stores-all r j f [] legal.joins fits

  -- of one that is not admitted, none is appended
  pub segmentation-dropped : meets r j t ≡ false →
      (offers r (record { stage = Block; failures = f; pending = []; journal = j }) (map block_string ss)).central ≡ at Block [] j
  segmentation-dropped unfit = drops-all r j f [] legal.joins unfit
