-- The strings of the device: they fit into 256 bytes, are 7-bit values, and none but a stopped device's is empty.
use mathlib.Core.Bool.{true}
use mathlib.Core.List.{List, []}
use mathlib.Core.Path.{◌≡◌, refl}
use Prim.Native.Nat.{ℕ, ◌≤◌}
use native.Mathlib.Omega.{arith}
use lib.ListN.{length, get_or, length-append, length-take}
use Rattle.line.specs.Character.{seven}
use Rattle.line.specs.Password.{password_in_range, password_text}
use Rattle.line.specs.Test.{all}
use Rattle.block.proofs.FrameLaws.{block-length}
use Rattle.journal.specs.Encoding.{all_legal}
use Rattle.journal.proofs.RecordLaws.{legal-at}
use Rattle.device.specs.Reaction.{segment_in, string_text}
use Rattle.device.specs.Step.{exists}
use Rattle.device.specs.declared.state.Settings.{Settings}
use Rattle.device.specs.declared.state.Step.{Step}
use Rattle.device.specs.declared.state.Step.TheVariants.{Opening, Logon, Sending, Closing, Stopped}
use Rattle.device.proofs.JobLaws.{somewhere-parts}
use Rattle.device.proofs.SegmentsLaws.{segments_short, segments_seven}
use Rattle.device.proofs.WritingLaws.{logon-seven, password-parts}

module _ (settings : Settings) (ts : List (List ℕ)) where
  -- the settings' password is in range, the job's transactions are legal, and the step's place exists
  module _ (password : password_in_range settings.password ≡ true) (good : all_legal ts ≡ true) where
    -- a string fits into 256 bytes
    pub string-short : (step : Step) → exists settings ts step ≡ true → length (string_text settings ts step) ≤ 256
    string-short (Opening p) e = omega arith
    string-short (Logon p) e = let (short, _) = password-parts settings.password password in
        simp (length-append, length-take) (omega arith)
    string-short (Sending p) e =
        let (there, block) = somewhere-parts settings ts p e in
        segments_short settings (get_or ts p.transaction []) (legal-at ts p.transaction good there) p.block block
    string-short (Closing p) e = omega arith
    string-short Stopped e = omega arith

    -- it is made of 7-bit values
    pub string-seven : (step : Step) → exists settings ts step ≡ true → all seven (string_text settings ts step) ≡ true
    unfolding all
    string-seven (Opening p) e = refl
    string-seven (Logon p) e = logon-seven (password_text settings.password) (password-parts settings.password password).1
    string-seven (Sending p) e =
        let (there, block) = somewhere-parts settings ts p e in
        segments_seven settings (get_or ts p.transaction []) (legal-at ts p.transaction good there) p.block block
    string-seven (Closing p) e = refl
    string-seven Stopped e = refl

  -- a string is empty only where the device has stopped
  pub string-some : (step : Step) → (step ≡ Stopped → ⊥) → 1 ≤ length (string_text settings ts step)
  string-some (Opening p) n = omega arith
  string-some (Logon p) n = omega arith
  string-some (Sending p) n =
      let g = segment_in settings ts p in
      rw (block-length g.info g.ending) (omega arith)
  string-some (Closing p) n = omega arith
  string-some Stopped n = absurd (n refl)
