-- Laws of the reaction, whatever the journal is made of: what every reaction is one of, that silence changes nothing, that the content rules alone
-- decide on the last block of a transaction, and what the answer to a block means.
use Rattle.std.specs.Prelude.{if◌then◌else◌}
use mathlib.Core.Bool.{Bool, true, false}
use mathlib.Core.List.{List, [], ◌++◌}
use mathlib.Core.Logic.{◌↔◌}
use mathlib.Core.Path.{◌≡◌, refl}
use Prim.Native.Nat.{ℕ}
use borrow.Author.Tests.{lt-leb, ltb-true}
use lib.Dec.{ltb}
use lib.ListN.{length}
use Rattle.line.proofs.OutcomeLaws.{choice}
use Rattle.line.specs.Test.{same}
use Rattle.line.specs.Text.{bytes_of}
use Rattle.block.specs.Block.{Segment}
use Rattle.block.specs.Segments.{continues}
use Rattle.admission.specs.Content.{content, admits}
use Rattle.central.specs.Hearing.{Heard, silence, noise, hello, hello_again, logon, bye, block, misfit}
use Rattle.central.proofs.HearingLaws.{OfBlock}
use Rattle.central.specs.Reaction.{Answer, nothing, idRequest, acceptance, ack, rs, hangUp, Rules, meets, Central, Reaction, stays, at, fails, drops, stores, takes, reacts}
use Rattle.central.specs.declared.state.Stage.{Stage}
use Rattle.central.specs.declared.state.Stage.TheVariants.{Idle, Logon, Block, Closed}

-- ── Every reaction ──

-- a stage at which failures are counted
pub data Counting : Stage → Type 0 where
  at-logon : Counting Logon
  at_block : Counting Block

-- a predicate that holds of the central as it is and of a stage begun with nothing unfinished
module _ {J : Type 0} (r : Rules J) (c : Central J) (P : Reaction J → Type 0)
    (self : (a : Answer) → P (record { next = c; answer = a }))
    (begins : (stage : Stage) (a : Answer) → P (record { next = at stage [] c.journal; answer = a })) where
  -- holds of every reaction, where it does of a failure that is counted and of the block that was heard
  pub every : {Q : Segment → Type 0} (stage : Stage) (h : Heard stage) → (Counting stage → P (fails r c)) →
      ((g : Segment) → Q g → P (takes r c (c.pending ++ g.info) (continues g.ending))) → OfBlock Q h → P (reacts r c stage h)
  unfolding reacts
  every stage silence fail take q = self nothing
  every Idle hello fail take q = begins Logon idRequest
  every Idle noise fail take q = self nothing
  every Logon hello_again fail take q = self idRequest
  every Logon (logon text) fail take q = choice P (same text (bytes_of "PG1" ++ r.password)) (λ e. begins Block acceptance) (λ e. fail at-logon)
  every Logon noise fail take q = fail at-logon
  every Block bye fail take q = begins Closed hangUp
  every Block (block g) fail take q = take g q
  every Block misfit fail take q = begins Block rs
  every Block noise fail take q = fail at_block
  every Closed noise fail take q = self nothing

-- ── What the answer to a block means ──

module _ {J : Type 0} (r : Rules J) (c : Central J) where
  -- silence is not answered and changes nothing
  pub silent : (stage : Stage) → reacts r c stage silence ≡ stays c
  unfolding reacts
  silent stage = refl

  -- what the central does with the last block of a transaction, by the content rules and by room alone
  abbrev pub concludes : List ℕ → Reaction J
  concludes t = if meets r c.journal t then stores r c t else drops c

  -- a transaction over L is not admitted
  over-refused : (t : List ℕ) → ltb r.longest (length t) ≡ true → meets r c.journal t ≡ false
  unfolding admits content
  over-refused t h = rw (lt-leb (length t) r.longest (ltb-true r.longest (length t) h))

  -- the content rules and room alone decide on the last block of a transaction
  pub last_block : (g : Segment) → continues g.ending ≡ false → reacts r c Block (block g) ≡ concludes (c.pending ++ g.info)
  unfolding reacts
  last_block g l =
      let t : List ℕ = c.pending ++ g.info in
      rw l (choice (λ x. x ≡ concludes t) (ltb r.longest (length t)) (λ over. rw (over-refused t over)) (λ fits. refl))

  -- the last block of a transaction is acknowledged exactly if the transaction is admitted, and then it is stored
  pub acknowledges : (g : Segment) → continues g.ending ≡ false →
      let x = reacts r c Block (block g) in
      let t = c.pending ++ g.info in
      ((x.answer ≡ ack) ↔ (meets r c.journal t ≡ true)) × (x.answer ≡ ack → x.next.journal ≡ r.storage.put c.journal t)
  acknowledges g l =
      let t : List ℕ = c.pending ++ g.info in
      rw (last_block g l) (go (meets r c.journal t))
    where
      go : (b : Bool) → let x = if b then stores r c (c.pending ++ g.info) else drops c in
          ((x.answer ≡ ack) ↔ (b ≡ true)) × (x.answer ≡ ack → x.next.journal ≡ r.storage.put c.journal (c.pending ++ g.info))
      go true = ((λ h. refl, λ h. refl), λ h. refl)
      go false = ((λ h. cc, λ h. cc), λ h. cc)

  -- a block that is refused leaves the journal as it is
  pub refuses_keeps : (g : Segment) → (reacts r c Block (block g)).answer ≡ rs → (reacts r c Block (block g)).next.journal ≡ c.journal
  unfolding reacts
  refuses_keeps g =
      let t : List ℕ = c.pending ++ g.info in
      let Kept : Reaction J → Type 0 = λ x. x.answer ≡ rs → x.next.journal ≡ c.journal in
      choice Kept (ltb r.longest (length t)) (λ o h. refl)
      (λ o. choice Kept (continues g.ending) (λ l h. cc) (λ l. choice Kept (meets r c.journal t) (λ a h. cc) (λ a h. refl)))
