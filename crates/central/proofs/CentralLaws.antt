-- Laws of a step: one that is not refused leaves a state in range and a well-formed journal.
use mathlib.Core.Bool.{true, not, ◌&&◌, and-eq-true_iff}
use mathlib.Core.List.{List}
use mathlib.Core.Path.{◌≡◌, refl, subst}
use Prim.Native.Nat.{ℕ, ◌≤◌}
use native.Mathlib.Omega.{arith}
use borrow.Author.Tests.{leb-true, le-leb, eqb-true, eq-eqb, not-false}
use lib.Dec.{ltb}
use lib.ListN.{length, length-take}
use Rattle.line.proofs.OutcomeLaws.{map-done, passed}
use Rattle.line.proofs.OverlayLaws.{overlay-start}
use Rattle.line.specs.Answer.{done}
use Rattle.line.specs.Character.{byte, textual}
use Rattle.line.specs.Test.{all}
use Rattle.journal.proofs.StorageLaws.{put-journal, read-buffer, read-journal, stored-read}
use Rattle.journal.specs.Encoding.{Journal}
use Rattle.journal.specs.Storage.{transactions, decode_in, size_of, stored_in}
use Rattle.admission.proofs.ContentLaws.{admits-parts}
use Rattle.central.proofs.RangeLaws.{settings_longest}
use Rattle.central.proofs.HearingLaws.{heard-right}
use Rattle.central.proofs.KeepLaws.{Within, Stored, Keeps, reacts-keeps}
use Rattle.central.specs.Hearing.{heard}
use Rattle.central.specs.Reaction.{Rules, Central, Reaction}
use Rattle.central.specs.Step.{settings_in_range, pagers_in_range, pending_text, failures_in_range, length_in_range, state_in_range, rules_of, central_of, saved, saved_as, tested, stepped}
use Rattle.central.specs.declared.state.Settings.{Settings}
use Rattle.central.specs.declared.state.Stage.{Stage}
use Rattle.central.specs.declared.state.Stage.TheVariants.{Idle, Logon, Block, Closed}
use Rattle.central.specs.declared.state.State.{State}

-- what is shorter than information in range is in range
shorter_short : (stage : Stage) (most n m : ℕ) → m ≤ n → length_in_range stage most n ≡ true → length_in_range stage most m ≡ true
shorter_short Idle most n m h e = eq-eqb m 0 (omega (arith, eqb-true n 0 e))
shorter_short Logon most n m h e = eq-eqb m 0 (omega (arith, eqb-true n 0 e))
shorter_short Block most n m h e = le-leb m most (omega (arith, leb-true n most e))
shorter_short Closed most n m h e = eq-eqb m 0 (omega (arith, eqb-true n 0 e))

-- a state in range is a central within its rules
state-within : (s : State) (settings : Settings) (pagers : List ℕ) (ts : List (List ℕ)) → state_in_range settings s ≡ true → Within (rules_of settings pagers) (central_of s ts)
state-within s settings pagers ts h =
    let (r, text) = (and-eq-true_iff _ (all textual (pending_text s))).0 h in
    let (row, short) = (and-eq-true_iff (failures_in_range s.stage settings.retries s.failures) _).0 r in
    record { row = row; short = shorter_short s.stage settings.longest s.length (length (pending_text s)) (rw length-take (omega arith)) short; text = text }

-- a central within its rules is saved as a state in range
within-state : {J : Type 0} (r : Rules J) (c : Central J) (settings : Settings) (n : ℕ) (array : List ℕ) → r.longest ≡ settings.longest → r.retries ≡ settings.retries →
    Within r c → state_in_range settings (saved c n array) ≡ true
within-state r c settings n array l k w = rw (← l, ← k, w.row, w.short, overlay-start c.pending array (length c.pending) refl, w.text)

-- a list of transactions that admits one more is well formed with it
transactions-stored : (settings : Settings) (pagers : List ℕ) → Stored (rules_of settings pagers) Journal
transactions-stored settings pagers ts t j good fits = put-journal ts t j good (admits-parts settings.longest pagers transactions ts t fits).1

-- a step that is not refused
module _ (s : State) (settings : Settings) (pagers buffer string : List ℕ) (room : ℕ) (x : Reaction (List (List ℕ))) (step : stepped s settings pagers buffer string room ≡ done x) where
  -- its settings and its state are in range, the journal is read, and the central within its rules reacted
  step-reacted : (settings.longest ≤ 2000) × (ts : List (List ℕ)) × (decode_in buffer s.journal ≡ done ts) × Keeps Journal (rules_of settings pagers) (central_of s ts) x
  unfolding stepped tested
  step-reacted =
      let (ts, tested, e) = map-done _ _ x step in
      let (tests, r) = passed (not (settings_in_range settings && pagers_in_range pagers && state_in_range settings s)) _ _ _ tested in
      let (_, read) = passed (ltb room 7) _ _ _ r in
      let (lists, state) = (and-eq-true_iff (settings_in_range settings && pagers_in_range pagers) (state_in_range settings s)).0 (not-false _ tests) in
      let most = settings_longest settings ((and-eq-true_iff (settings_in_range settings) (pagers_in_range pagers)).0 lists).0 in
      let rules : Rules (List (List ℕ)) = rules_of settings pagers in
      let c : Central (List (List ℕ)) = central_of s ts in
      let keeps = reacts-keeps Journal rules (transactions-stored settings pagers) c (state-within s settings pagers ts state) most (heard s.stage string) (heard-right s.stage string) in
      (most, ts, read, subst (Keeps Journal rules c) e keeps)

  -- it leaves a state in range
  pub step_in_range_lem : state_in_range settings (saved_as x s.pending) ≡ true
  step_in_range_lem = within-state (rules_of settings pagers) x.next settings (size_of x.next.journal) s.pending refl refl step-reacted.3.within

  -- it leaves a well-formed journal, which is read from its bytes laid over the buffer
  pub step-journal : all byte buffer ≡ true →
      let ts = x.next.journal in
      Journal ts × (decode_in (stored_in (done ts) buffer) (size_of ts) ≡ done ts)
  step-journal bytes =
      let (_, ts, read, k) = step-reacted in
      let j = k.journal (read-journal buffer s.journal ts bytes read) in
      (j, stored-read buffer x.next.journal (read-buffer buffer s.journal ts bytes read) j)
