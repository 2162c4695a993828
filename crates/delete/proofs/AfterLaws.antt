-- What stands after a deletion: the journal that is left is read at the start of the buffer, walking it again hands out the others, and a step of
-- the central is one over that journal.
use Rattle.std.specs.Prelude.{if◌then◌else◌}
use mathlib.Core.Bool.{Bool, true, false, not, ◌&&◌}
use mathlib.Core.List.{List, reverse, reverse-reverse}
use mathlib.Core.Path.{◌≡◌, refl, sym, ap, ◌∙◌}
use Prim.Native.Nat.{ℕ, zero, suc, ◌+◌}
use native.Mathlib.Omega.{arith}
use borrow.Author.Tests.{not-false}
use lib.Dec.{ltb, eqb, eqb-suc-zero}
use lib.ListN.{take}
use Rattle.line.proofs.OutcomeLaws.{then_done, map-done, met, passed}
use Rattle.line.proofs.OverlayLaws.{overlay-start}
use Rattle.line.specs.Answer.{Outcome, done, refused, map_done, and_then, overlay}
use Rattle.line.specs.Character.{byte, textual}
use Rattle.line.specs.Test.{all}
use Rattle.journal.proofs.CursorLaws.{cursor_newest}
use Rattle.journal.proofs.EncodingLaws.{decode-encode}
use Rattle.journal.proofs.StorageLaws.{decode_in_parts, read-buffer, stored-read}
use Rattle.journal.specs.Cursor.{handed_out}
use Rattle.journal.specs.Encoding.{encode, Journal}
use Rattle.journal.specs.Storage.{decode_in, size_of, stored_in}
use Rattle.journal.specs.Walk.{trailer, newest_first, decode}
use Rattle.admission.specs.Content.{any_for}
use Rattle.central.specs.Hearing.{heard}
use Rattle.central.specs.Reaction.{Reaction, reacts}
use Rattle.central.specs.Step.{settings_in_range, pagers_in_range, failures_in_range, length_in_range, pending_text, state_in_range, rules_of, central_of, stepped, tested}
use Rattle.central.specs.declared.state.Settings.{Settings}
use Rattle.central.specs.declared.state.Stage.{Stage}
use Rattle.central.specs.declared.state.Stage.TheVariants.{Idle, Logon, Block, Closed}
use Rattle.central.specs.declared.state.State.{State}
use Rattle.delete.specs.Deletion.{is_open, rests_in_range, without_pager, deletable, deleted, deleted_pager, state_over}
use Rattle.delete.specs.Inner as Inner
use Rattle.delete.specs.Inner.{deleted_chosen}
use Rattle.delete.specs.declared.choice.Choice.{Choice}
use Rattle.delete.specs.declared.choice.Choice.TheVariants.{Newest, Pager}
use Rattle.delete.proofs.GoneLaws.{Gone, newest_gone}
use Rattle.delete.proofs.KeptLaws.{others, others-reverse, without-journal}

-- what walking a journal through the cursor hands out, newest first
abbrev pub handed : List ℕ → Outcome (List (List ℕ))
handed journal = and_then (trailer journal) (λ p. handed_out (p.left + 1) journal p)

-- a journal that is read hands out its transactions, newest first
handed_decoded : (journal : List ℕ) (ts : List (List ℕ)) → decode journal ≡ done ts → handed journal ≡ done (reverse ts)
handed_decoded journal ts h =
    let (rs, newest, same) = map-done reverse (newest_first journal) ts h in
    cursor_newest journal ∙ newest ∙ ap done (sym (reverse-reverse rs) ∙ ap reverse same)

-- what passes the tests: no call is open, the state is in range, and the journal is read
deletable-parts : (s : State) (b : List ℕ) (ts : List (List ℕ)) → deletable s b ≡ done ts →
    (is_open s.stage ≡ false) × (rests_in_range s.stage s.failures s.length ≡ true) × (decode_in b s.journal ≡ done ts)
unfolding deletable
deletable-parts s b ts h =
    let (rests, r) = passed (not (rests_in_range s.stage s.failures s.length)) 9 _ ts h in
    let (us, read, t) = then_done (decode_in b s.journal) _ ts r in
    let (closed, same) = passed (is_open s.stage) 9 _ ts t in
    (closed, not-false _ rests, read ∙ same)

-- ── The journal that is left ──

-- a journal and what is left of it: both are read, and walking hands out their transactions, newest first
pub record Left (choice : Choice) (s : State) (b : List ℕ) (ks : List (List ℕ)) : Type 0 where
  pub before : List (List ℕ)
  pub passes : deletable s b ≡ done before
  pub without : Inner.without choice before ≡ done ks
  pub walked : handed (take s.journal b) ≡ done (reverse before)
  pub journal : Journal ks
  pub reads : decode_in (overlay (encode ks) b) (size_of ks) ≡ done ks
  pub walks : handed (take (size_of ks) (overlay (encode ks) b)) ≡ done (reverse ks)

-- so after every deletion
pub left : (choice : Choice) (s : State) (b : List ℕ) (ks : List (List ℕ)) → all byte b ≡ true → deleted_chosen choice s b ≡ done ks → Left choice s b ks
unfolding size_of stored_in
left choice s b ks bytes h =
    let (ts, passes, made) = then_done (deletable s b) (Inner.without choice) ks h in
    let (_, _, read) = deletable-parts s b ts passes in
    let (_, _, same, j) = decode_in_parts b s.journal ts bytes read in
    let k = without-journal choice ts ks j made in
    record {
      before = ts;
      passes = passes;
      without = made;
      walked = handed_decoded (take s.journal b) ts (rw same (decode-encode ts j));
      journal = k;
      reads = stored-read b ks (read-buffer b s.journal ts bytes read) k;
      walks = handed_decoded (take (size_of ks) (overlay (encode ks) b)) ks (rw (overlay-start (encode ks) b (size_of ks) refl) (decode-encode ks k));
    }

-- ── Walking again ──

module _ (s : State) (b : List ℕ) (ks : List (List ℕ)) (bytes : all byte b ≡ true) where
  -- the n-th is handed out no more, and the others are, in their order
  pub newest_walk : (n : ℕ) → deleted s b n ≡ done ks →
      (rs us : List (List ℕ)) × (handed (take s.journal b) ≡ done rs) × (handed (take (size_of ks) (overlay (encode ks) b)) ≡ done us) × Gone n rs us
  newest_walk n h =
      let l = left (Newest n) s b ks bytes h in
      (reverse l.before, reverse ks, l.walked, l.walks, newest_gone n l.before ks l.without)

  -- those for the pager number are handed out no more
  pub pager-walk : (m : ℕ) → deleted_pager s b m ≡ done ks →
      (rs : List (List ℕ)) × (handed (take s.journal b) ≡ done rs) × (handed (take (size_of ks) (overlay (encode ks) b)) ≡ done (others m rs))
  unfolding without_pager
  pager-walk m h =
      let l = left (Pager m) s b ks bytes h in
      let (_, made) = met (any_for m l.before) 9 _ ks l.without in
      let same : others m l.before ≡ ks = cc in
      (reverse l.before, l.walked, l.walks ∙ ap done (ap reverse (sym same) ∙ sym (others-reverse m l.before)))

-- ── A step of the central ──

-- a state with no call open is in range for some settings where it is for all: where it has no row and no unfinished information
pub rests_in_range_lem : (settings : Settings) (s : State) → is_open s.stage ≡ false → state_in_range settings s ≡ rests_in_range s.stage s.failures s.length
unfolding all
rests_in_range_lem settings s closed = by_stage s.stage closed
  where
    nothing : (x : Bool) (n : ℕ) → (x && eqb n 0 && all textual (take n s.pending)) ≡ (x && eqb n 0)
    nothing true zero = refl
    nothing false zero = refl
    nothing true (suc k) = rw (eqb-suc-zero k)
    nothing false (suc k) = refl

    by_stage : (stage : Stage) → is_open stage ≡ false → (failures_in_range stage settings.retries s.failures && length_in_range stage settings.longest s.length && all textual (pending_text s)) ≡ rests_in_range stage s.failures s.length
    by_stage Idle e = nothing (eqb s.failures 0) s.length
    by_stage Closed e = nothing (eqb s.failures 0) s.length
    by_stage Logon e = let z : ◌≡◌ {A = ℕ} 0 1 = cc in absurd (omega arith)
    by_stage Block e = let z : ◌≡◌ {A = ℕ} 0 1 = cc in absurd (omega arith)

-- a step after a deletion is a step over the journal that is left: the state is in range and the journal is read, whatever the settings
pub step_after : (choice : Choice) (s : State) (b : List ℕ) (ks : List (List ℕ)) → all byte b ≡ true → deleted_chosen choice s b ≡ done ks → (settings : Settings) (pagers string : List ℕ) (room : ℕ) →
    stepped (state_over s (done ks)) settings pagers (overlay (encode ks) b) string room ≡
    (if not (settings_in_range settings && pagers_in_range pagers) then refused 9
    else if ltb room 7 then refused 1
    else done (reacts (rules_of settings pagers) (central_of s ks) s.stage (heard s.stage string)))
unfolding stepped tested
step_after choice s b ks bytes h settings pagers string room =
    let l = left choice s b ks bytes h in
    let (closed, rests, _) = deletable-parts s b l.before l.passes in
    let ranged : state_in_range settings (state_over s (done ks)) ≡ true = rests_in_range_lem settings (state_over s (done ks)) closed ∙ rests in
    rw (ranged, l.reads) (go (settings_in_range settings && pagers_in_range pagers) (ltb room 7))
  where
    x : Reaction (List (List ℕ))
    x = reacts (rules_of settings pagers) (central_of s ks) s.stage (heard s.stage string)

    go : (known short : Bool) → map_done (λ ts. reacts (rules_of settings pagers) (central_of s ts) s.stage (heard s.stage string)) (if not (known && true) then refused 9 else if short then refused 1 else done ks) ≡
        (if not known then refused 9 else if short then refused 1 else done x)
    go false short = refl
    go true true = refl
    go true false = refl
