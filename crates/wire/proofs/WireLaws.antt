-- What the two ends exchange at the Block stage goes through the framer unaltered: the strings that the device sends there, and every string that the central recognizes as
-- a block or as a goodbye, are whole; so that the central hears of the framer what it would hear of a driver that cuts.
use Rattle.std.specs.Prelude.{if◌then◌else◌}
use mathlib.Core.Bool.{Bool, true, false, not}
use mathlib.Core.List.{List, [], ◌∷◌, ◌++◌, map}
use mathlib.Core.Path.{◌≡◌, refl, ◌∙◌}
use Prim.Native.Nat.{ℕ}
use native.Mathlib.Omega.{arith}
use lib.Dec.{ltb, eqb}
use lib.ListN.{length, get_or}
use Rattle.line.specs.Answer.{Outcome, done, refused}
use Rattle.line.specs.Character.{CR, EOT}
use Rattle.line.specs.Parity.{even, seven_bits, parity_off}
use Rattle.line.specs.Test.{all, before_first, same}
use Rattle.line.proofs.OutcomeLaws.{passed, choice}
use Rattle.line.proofs.SameLaws.{same_equal}
use Rattle.block.specs.Block.{Segment, read_block}
use Rattle.block.proofs.FrameLaws.{read_write}
use Rattle.journal.specs.Encoding.{all_legal}
use Rattle.journal.proofs.RecordLaws.{legal-at}
use Rattle.central.specs.Hearing.{bye, block, heard_block, heard_text, recognized, heard}
use Rattle.central.specs.declared.state.Stage.TheVariants.{Block}
use Rattle.central.proofs.HearingLaws.{heard-read}
use Rattle.device.specs.Reaction.{bytes_of_string, segment_in}
use Rattle.device.specs.Step.{exists}
use Rattle.device.specs.declared.state.Place.{Place}
use Rattle.device.specs.declared.state.Settings.{Settings}
use Rattle.device.specs.declared.state.Step.TheVariants.{Sending, Closing}
use Rattle.device.proofs.JobLaws.{somewhere-parts}
use Rattle.device.proofs.SegmentsLaws.{segments_right}
use Rattle.framer.specs.Framing.{Whole, is_opening}
use Rattle.framer.specs.State.{state_of}
use Rattle.framer.specs.Driver.{Drives}
use Rattle.framer.proofs.BlockLaws.{seven-whole, seven-bye, block-whole, bye-whole}
use Rattle.framer.proofs.DriverLaws.{whole_alone, whole_drives, skipped_drives}

-- ── What the device sends ──

module _ (settings : Settings) (ts : List (List ℕ)) where
  -- what the device sends at a place of a legal job is a whole string
  sent-whole : all_legal ts ≡ true → (p : Place) → exists settings ts (Sending p) ≡ true → Whole (bytes_of_string settings ts (Sending p))
  sent-whole good p e =
      let (there, at) = somewhere-parts settings ts p e in
      let g = segment_in settings ts p in
      let (short, fits) = segments_right settings (get_or ts p.transaction []) (legal-at ts p.transaction good there) p.block at in
      block-whole g.info g.ending short fits

  -- each block that it sends, met with nothing held, comes out unaltered and alone, nothing held behind it
  pub block-sent : all_legal ts ≡ true → (p : Place) → exists settings ts (Sending p) ≡ true →
      let s = bytes_of_string settings ts (Sending p) in
      Drives (state_of []) (s ∷ []) (s ∷ []) (state_of [])
  block-sent good p e = whole_alone (sent-whole good p e)

  -- two in a row come out as the two
  pub blocks-sent : all_legal ts ≡ true → (p q : Place) → exists settings ts (Sending p) ≡ true → exists settings ts (Sending q) ≡ true →
      let s = bytes_of_string settings ts (Sending p) in
      let t = bytes_of_string settings ts (Sending q) in
      Drives (state_of []) ((s ++ t) ∷ []) (s ∷ t ∷ []) (state_of [])
  blocks-sent good p q e f = whole_drives (block-sent good q f) (sent-whole good p e)

  -- and so does EOT CR
  pub bye-sent : (p : Place) →
      let s = bytes_of_string settings ts (Closing p) in
      Drives (state_of []) (s ∷ []) (s ∷ []) (state_of [])
  bye-sent p = whole_alone bye-whole

-- ── What the central recognizes ──

-- what is left without parity is the low seven bits
off_seven : (s t : List ℕ) (room : ℕ) → parity_off s room ≡ done t → map seven_bits s ≡ t
unfolding parity_off
off_seven s t room e =
    let (_, fits) = passed (ltb room (length s)) 1 _ t e in
    let (_, is) = passed (not (all even s)) 3 _ t fits in
    cc

-- a string that the Block stage hears as a block is whole
pub heard-block-whole : (s : List ℕ) (g : Segment) → heard Block s ≡ block g → Whole s
heard-block-whole s g e =
    let (t, off, read) = heard-read s g e in
    let (is, short, fits) = read_write t g read in
    seven-whole s g.info g.ending (off_seven s t 256 off ∙ is) short fits

-- what is heard is a goodbye only if the text is EOT CR
recognized-bye : (t : List ℕ) → recognized Block t ≡ bye → t ≡ EOT ∷ CR ∷ []
unfolding recognized
recognized-bye t = go (same t (EOT ∷ CR ∷ [])) refl (read_block t)
  where
    never : (o : Outcome Segment) → heard_block o ≡ bye → ⊥
    never (done g) e = let z : ◌≡◌ {A = ℕ} 0 1 = cc in omega arith
    never (refused n) e =
        choice (λ x. x ≡ bye → ⊥) (eqb n 6) (λ _ e. let z : ◌≡◌ {A = ℕ} 0 1 = cc in omega arith) (λ _ e. let z : ◌≡◌ {A = ℕ} 0 1 = cc in omega arith) e

    go : (b : Bool) → same t (EOT ∷ CR ∷ []) ≡ b → (o : Outcome Segment) → (if b then bye else heard_block o) ≡ bye → t ≡ EOT ∷ CR ∷ []
    go true equal o e = same_equal t (EOT ∷ CR ∷ []) equal
    go false equal o e = absurd (never o e)

-- a string that the Block stage hears as a goodbye is whole
pub heard-bye-whole : (s : List ℕ) → heard Block s ≡ bye → Whole s
unfolding heard
heard-bye-whole [] e = let z : ◌≡◌ {A = ℕ} 0 1 = cc in absurd (omega arith)
heard-bye-whole (b ∷ bs) e = go (parity_off (b ∷ bs) 256) refl e
  where
    go : (o : Outcome (List ℕ)) → parity_off (b ∷ bs) 256 ≡ o → heard_text Block o ≡ bye → Whole (b ∷ bs)
    go (done t) off e = seven-bye (b ∷ bs) (off_seven (b ∷ bs) t 256 off ∙ recognized-bye t e)
    go (refused n) off e = let z : ◌≡◌ {A = ℕ} 0 1 = cc in absurd (omega arith)

-- ── Through the framer ──

-- a whole string behind bytes that begin none, met with nothing held, is handed over alone
cut_out : {s : List ℕ} → Whole s → (before : List ℕ) → before_first is_opening before ≡ length before → Drives (state_of []) ((before ++ s) ∷ []) (s ∷ []) (state_of [])
cut_out w before none-opens = skipped_drives (whole_alone w) before none-opens

module _ (before s : List ℕ) (none-opens : before_first is_opening before ≡ length before) where
  -- what the central hears as a block is what the framer hands over of it: the string of a driver that cuts
  pub block-handed : (g : Segment) → heard Block s ≡ block g → Drives (state_of []) ((before ++ s) ∷ []) (s ∷ []) (state_of [])
  block-handed g e = cut_out (heard-block-whole s g e) before none-opens

  -- so is what it hears as a goodbye
  pub bye-handed : heard Block s ≡ bye → Drives (state_of []) ((before ++ s) ∷ []) (s ∷ []) (state_of [])
  bye-handed e = cut_out (heard-bye-whole s e) before none-opens
