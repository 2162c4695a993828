-- What every reaction keeps: the central within its rules, and its journal well formed.
use mathlib.Core.Bool.{true, false}
use mathlib.Core.List.{List, [], ◌++◌}
use mathlib.Core.Path.{◌≡◌, refl, sym, ◌∙◌}
use Prim.Native.Nat.{ℕ, ◌+◌, ◌≤◌}
use native.Mathlib.Omega.{arith}
use borrow.Author.Tests.{leb-true, le-leb, ltb-false, eqb-false}
use lib.Dec.{leb, ltb, eqb}
use lib.ListN.{length}
use Rattle.line.proofs.OutcomeLaws.{choice}
use Rattle.line.specs.Character.{textual}
use Rattle.line.specs.Test.{all}
use Rattle.line.specs.Transaction.{legal}
use Rattle.block.proofs.SegmentsLaws.{joined-textual, joined-legal}
use Rattle.block.specs.Block.{Segment, right}
use Rattle.block.specs.Segments.{continues}
use Rattle.central.proofs.HearingLaws.{OfBlock}
use Rattle.central.proofs.ReactionLaws.{Counting, at-logon, at_block, every}
use Rattle.central.specs.Hearing.{Heard}
use Rattle.central.specs.Reaction.{Answer, rs, hangUp, Rules, meets, Central, Reaction, at, fails, takes, reacts}
use Rattle.central.specs.Step.{failures_in_range, length_in_range}
use Rattle.central.specs.declared.state.Stage.{Stage}
use Rattle.central.specs.declared.state.Stage.TheVariants.{Idle, Logon, Block, Closed}

-- a central within its rules, as a saved state is to be
pub record Within {J : Type 0} (r : Rules J) (c : Central J) : Type 0 where
  pub row : failures_in_range c.stage r.retries c.failures ≡ true
  pub short : length_in_range c.stage r.longest (length c.pending) ≡ true
  pub text : all textual c.pending ≡ true

-- a property of journals that storing keeps: one more transaction, a legal one that is admitted
abbrev pub Stored : {J : Type 0} → Rules J → (J → Type 0) → Type 0
Stored {J} r Sound = (j : J) (t : List ℕ) → Sound j → legal t ≡ true → meets r j t ≡ true → Sound (r.storage.put j t)

-- a reaction that leaves the central within its rules and its journal sound
pub record Keeps {J : Type 0} (Sound : J → Type 0) (r : Rules J) (c : Central J) (x : Reaction J) : Type 0 where
  pub within : Within r x.next
  pub journal : Sound c.journal → Sound x.next.journal

-- the start of a row of failures is in range
row-start : (stage : Stage) (most : ℕ) → failures_in_range stage most 0 ≡ true
row-start Idle most = refl
row-start Logon most = le-leb 0 most (omega arith)
row-start Block most = le-leb 0 most (omega arith)
row-start Closed most = refl

-- no unfinished information is in range
none-short : (stage : Stage) (most : ℕ) → length_in_range stage most 0 ≡ true
none-short Idle most = refl
none-short Logon most = refl
none-short Block most = le-leb 0 most (omega arith)
none-short Closed most = refl

-- where failures are counted, they are at most C
counting_row : {stage : Stage} → Counting stage → (most n : ℕ) → failures_in_range stage most n ≡ leb n most
counting_row at-logon most n = refl
counting_row at_block most n = refl

-- the start of a stage with no unfinished information is within the rules
within-at : {J : Type 0} (r : Rules J) (stage : Stage) (j : J) → Within r (at stage [] j)
unfolding all
within-at r stage j = record { row = row-start stage r.retries; short = none-short stage r.longest; text = refl }

-- a central within its rules, whose longest transaction is a legal one, over journals that storing keeps sound
module _ {J : Type 0} (Sound : J → Type 0) (r : Rules J) (stored : Stored r Sound) (c : Central J) (w : Within r c) (most : r.longest ≤ 2000) where
  -- the central as it is
  keeps_self : (a : Answer) → Keeps Sound r c (record { next = c; answer = a })
  keeps_self a = record { within = w; journal = λ j. j }

  -- a stage begins with no unfinished information
  keeps-at : (stage : Stage) (a : Answer) → Keeps Sound r c (record { next = at stage [] c.journal; answer = a })
  keeps-at stage a = record { within = within-at r stage c.journal; journal = λ j. j }

  -- a failure, at a stage that counts them
  keeps-fails : Counting c.stage → Keeps Sound r c (fails r c)
  keeps-fails counting =
      let counted = counting_row counting r.retries in
      let row : c.failures ≤ r.retries = leb-true c.failures r.retries (sym (counted c.failures) ∙ w.row) in
      choice (Keeps Sound r c) (eqb c.failures r.retries) (λ e. keeps-at Closed hangUp)
      (λ e. record { within = record { row = counted (c.failures + 1) ∙ le-leb (c.failures + 1) r.retries (omega (arith, eqb-false c.failures r.retries e)); short = w.short; text = w.text }; journal = λ j. j })

  -- a block that is right for its ending
  keeps-takes : (g : Segment) → right g.info g.ending ≡ true → Keeps Sound r c (takes r c (c.pending ++ g.info) (continues g.ending))
  keeps-takes g h =
      let t : List ℕ = c.pending ++ g.info in
      let text : all textual t ≡ true = joined-textual c.pending g.info g.ending w.text h in
      let fit : ltb r.longest (length t) ≡ false → length t ≤ r.longest = ltb-false r.longest (length t) in
      choice (Keeps Sound r c) (ltb r.longest (length t)) (λ over. keeps-at Block rs) λ fits.
      choice (Keeps Sound r c) (continues g.ending)
      (λ more. record { within = record { row = row-start Block r.retries; short = le-leb (length t) r.longest (fit fits); text = text }; journal = λ j. j }) λ last.
      choice (Keeps Sound r c) (meets r c.journal t)
      (λ a. record {
        within = within-at r Block (r.storage.put c.journal t);
        journal = λ j. stored c.journal t j (joined-legal c.pending g.info g.ending w.text h last (omega (arith, fit fits))) a;
      })
      (λ a. keeps-at Block rs)

  -- every reaction of a central at its stage keeps it within its rules, and its journal sound
  pub reacts-keeps : (h : Heard c.stage) → OfBlock (λ g. right g.info g.ending ≡ true) h → Keeps Sound r c (reacts r c c.stage h)
  reacts-keeps h q = every r c (Keeps Sound r c) keeps_self keeps-at c.stage h keeps-fails keeps-takes q
