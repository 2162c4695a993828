-- Laws of sessions: in which texts can be held, that a reaction keeps them so, and that they are saved and read back.
use Rattle.std.specs.Prelude.{if◌then◌else◌, Option, None, Some}
use mathlib.Core.Bool.{Bool, true, false, not, ◌&&◌, and-eq-true_iff}
use mathlib.Core.List.{List, []}
use Rattle.std.specs.Option.{unwrap_or}
use mathlib.Core.Path.{◌≡◌, refl, ap, ◌∙◌}
use Prim.Native.Nat.{ℕ, ◌-◌, ◌≤◌}
use native.Mathlib.Omega.{arith}
use borrow.Author.Tests.{le-leb, leb-true, ne_eqb}
use lib.Dec.{eqb, leb}
use lib.ListN.{length, take, drop, replicate, length-replicate}
use lib.Seq.{take_at, drop_at, length-take-le}
use Rattle.line.proofs.AllLaws.{all-zeros, zeros-drop}
use Rattle.line.proofs.OverlayLaws.{overlay-length, overlay-start}
use Rattle.line.specs.Answer.{overlay}
use Rattle.line.specs.Character.{printable, digit}
use Rattle.line.specs.Test.{all}
use Rattle.journal.specs.Storage.{Storage}
use Rattle.admission.specs.Content.{is_pager_id, admits}
use Rattle.snpp.specs.Command.{Command, page, message, send, reset, quit}
use Rattle.snpp.specs.Reaction.{success, badText, failed, Entry, empty, Session, ongoing, closed, goes_on, takes_pager, holds_message, sends, follows, reacts, page_of}
use Rattle.snpp.specs.State.{no_digits, no_text, stage_of, saved, text_in, message_at, entry_in, is_closed, session_of, holds, fits, in_range}
use Rattle.snpp.specs.declared.state.Stage.{Stage}
use Rattle.snpp.specs.declared.state.Stage.TheVariants.{Open, Entered, Closed}
use Rattle.snpp.specs.declared.state.State.{State}
use Rattle.snpp.proofs.OfferLaws.{held-pager}
use Rattle.snpp.proofs.StateLaws.{Held, Ranged, pager-short}

-- a pager ID that can be held: 1 to 8 digits, or none
pub data SoundPager : Option (List ℕ) → Type 0 where
  no_pager : SoundPager None
  a_pager : {p : List ℕ} → is_pager_id p ≡ true → SoundPager (Some p)

-- a message that can be held: at most 2,043 printable characters, or none
pub data SoundMessage : Option (List ℕ) → Type 0 where
  no_message : SoundMessage None
  a_message : {m : List ℕ} → all printable m ≡ true → length m ≤ 2043 → SoundMessage (Some m)

-- a session that can be
pub data Sound : Session → Type 0 where
  over : Sound closed
  on : {e : Entry} → SoundPager e.pager → SoundMessage e.message → Sound (ongoing e)

-- ── Saved and read back ──

-- a text laid over zeros leaves as many bytes
laid-sized : (text : List ℕ) (k : ℕ) → length text ≤ k → length (overlay text (replicate k 0)) ≡ k
laid-sized text k l = overlay-length text (replicate k 0) (rw length-replicate l) ∙ length-replicate k 0

-- and is held
laid-holds : (kind : ℕ → Bool) (text : List ℕ) (k : ℕ) → all kind text ≡ true → length text ≤ k → holds kind (overlay text (replicate k 0)) (length text) ≡ true
unfolding overlay
laid-holds kind text k h l =
    let fits = le-leb (length text) (length (overlay text (replicate k 0))) (omega (arith, laid-sized text k l)) in
    rw (fits, take_at text (drop (length text) (replicate k 0)) (length text) refl, drop_at text (drop (length text) (replicate k 0)) (length text) refl, h, zeros-drop (length text) k, all-zeros (k - length text))

-- a pager ID that can be held, as it lies in its array
pager-holds : (o : Option (List ℕ)) → SoundPager o → let p = unwrap_or o [] in (all digit p ≡ true) × (length p ≤ 8)
unfolding all no_digits
pager-holds None no_pager = (refl, omega arith)
pager-holds (Some p) (a_pager h) = (((and-eq-true_iff (leb 1 (length p) && leb (length p) 8) (all digit p)).0 h).1, pager-short p h)

-- a message too
message-holds : (o : Option (List ℕ)) → SoundMessage o → let m = unwrap_or o [] in (all printable m ≡ true) × (length m ≤ 2043)
unfolding all
message-holds None no_message = (refl, omega arith)
message-holds (Some m) (a_message h l) = (h, l)

-- the lengths are right for the stage
stage-fits : (o : Option (List ℕ)) (digits : ℕ) → fits (stage_of o) digits (length (unwrap_or o [])) ≡ true
stage-fits None digits = refl
stage-fits (Some m) digits = refl

-- a session that can be is saved in range
pub sound-range : (x : Session) → Sound x → in_range (saved x) ≡ true
unfolding in_range no_digits no_text all
sound-range closed over = rw (laid-holds digit [] 8 refl (omega arith), laid-holds printable [] 2043 refl (omega arith))
sound-range (ongoing e) (on p m) =
    let (digits, few) = pager-holds e.pager p in
    let (text, short) = message-holds e.message m in
    rw (laid-holds digit (unwrap_or e.pager []) 8 digits few, laid-holds printable (unwrap_or e.message []) 2043 text short, stage-fits e.message (length (unwrap_or e.pager [])))

-- its arrays have their sizes
pub sound-sized : (x : Session) → Sound x → (length (saved x).pager ≡ 8) × (length (saved x).message ≡ 2043)
unfolding no_digits no_text
sound-sized closed over = (laid-sized [] 8 (omega arith), laid-sized [] 2043 (omega arith))
sound-sized (ongoing e) (on p m) = (laid-sized (unwrap_or e.pager []) 8 (pager-holds e.pager p).1, laid-sized (unwrap_or e.message []) 2043 (message-holds e.message m).1)

-- its pager ID is read back
pager-back : (o : Option (List ℕ)) → SoundPager o → let p = unwrap_or o [] in (if eqb (length p) 0 then None else Some (take (length p) (overlay p no_digits))) ≡ o
pager-back None no_pager = refl
pager-back (Some p) (a_pager h) =
    let (few, _) = (and-eq-true_iff (leb 1 (length p) && leb (length p) 8) (all digit p)).0 h in
    let one = leb-true 1 (length p) ((and-eq-true_iff (leb 1 (length p)) (leb (length p) 8)).0 few).0 in
    rw (ne_eqb (length p) 0 (λ z. omega arith), overlay-start p no_digits (length p) refl)

-- and its message
message-back : (o : Option (List ℕ)) → let m = unwrap_or o [] in message_at (stage_of o) (take (length m) (overlay m no_text)) ≡ o
message-back None = refl
message-back (Some m) = ap Some (overlay-start m no_text (length m) refl)

-- a session that goes on is at a stage that does
stage_open : (o : Option (List ℕ)) → is_closed (stage_of o) ≡ false
stage_open None = refl
stage_open (Some m) = refl

-- a session that can be is read back as it was
pub session_saved : (x : Session) → Sound x → session_of (saved x) ≡ x
session_saved closed over = refl
session_saved (ongoing e) (on p m) = rw (stage_open e.message, pager-back e.pager p, message-back e.message)

-- ── In range ──

-- the pager ID of a state in range can be held
held-sound : (array : List ℕ) (n : ℕ) → Held digit array n → length array ≡ 8 → SoundPager (if eqb n 0 then None else Some (take n array))
held-sound array n h e = go (eqb n 0) refl
  where
    go : (b : Bool) → eqb n 0 ≡ b → SoundPager (if b then None else Some (take n array))
    go true z = no_pager
    go false z = a_pager (held-pager array n h e z)

-- and its message
stage-sound : (stage : Stage) (text : List ℕ) → all printable text ≡ true → length text ≤ 2043 → SoundMessage (message_at stage text)
stage-sound Open text h l = no_message
stage-sound Entered text h l = a_message h l
stage-sound Closed text h l = no_message

-- so its session can be
pub range-sound : (s : State) → Ranged s → length s.pager ≡ 8 → length s.message ≡ 2043 → Sound (session_of s)
range-sound s r eight long = go (is_closed s.stage)
  where
    short : length (text_in s) ≤ 2043
    short = omega (arith, length-take-le s.length s.message r.message.within, r.message.within)

    go : (b : Bool) → Sound (if b then closed else ongoing (entry_in s))
    go true = over
    go false = on (held-sound s.pager s.digits r.pager eight) (stage-sound s.stage (text_in s) r.message.text short)

-- ── A reaction ──

-- a command whose text is short enough, as one of a line in range is
abbrev pub Short : Option Command → Type 0
Short c = (text : List ℕ) → c ≡ Some (message text) → length text ≤ 2043

-- a reaction leaves a session that can be
module _ {J : Type 0} (most : ℕ) (pagers : List ℕ) (store : Storage J) where
  -- PAGE
  pager-sound : (e : Entry) (journal : J) (text : List ℕ) → Sound (ongoing e) → Sound (takes_pager e journal text).next
  pager-sound e journal text (on p m) = go (is_pager_id text) refl
    where
      go : (b : Bool) → is_pager_id text ≡ b →
          Sound (if b then goes_on (record { pager = Some text; message = e.message }) journal success else goes_on e journal badText).next
      go true h = on (a_pager h) m
      go false h = on p m

  -- MESS
  message-sound : (e : Entry) (journal : J) (text : List ℕ) → Sound (ongoing e) → length text ≤ 2043 → Sound (follows most pagers store e journal (Some (message text))).next
  message-sound e journal text (on p m) l = go (all printable text) refl e.message
    where
      go : (b : Bool) → all printable text ≡ b → (o : Option (List ℕ)) → Sound (if not b then goes_on e journal badText else holds_message e journal text o).next
      go true h None = on p (a_message h l)
      go true h (Some earlier) = on p m
      go false h o = on p m

  -- SEND
  send_sound : (e : Entry) (journal : J) (p m : Option (List ℕ)) → Sound (ongoing e) → Sound (sends most pagers store e journal p m).next
  send_sound e journal None m s = s
  send_sound e journal (Some p) None s = s
  send_sound e journal (Some p) (Some m) s = go (admits most pagers store journal (page_of p m))
    where
      go : (b : Bool) → Sound (if b then goes_on empty (store.put journal (page_of p m)) success else goes_on empty journal failed).next
      go true = on no_pager no_message
      go false = on no_pager no_message

  -- any
  pub reacts-sound : (x : Session) (journal : J) (c : Option Command) → Sound x → Short c → Sound (reacts most pagers store x journal c).next
  unfolding reacts
  reacts-sound closed journal c s short = over
  reacts-sound (ongoing e) journal None s short = s
  reacts-sound (ongoing e) journal (Some (page text)) s short = pager-sound e journal text s
  reacts-sound (ongoing e) journal (Some (message text)) s short = message-sound e journal text s (short text refl)
  reacts-sound (ongoing e) journal (Some send) s short = send_sound e journal e.pager e.message s
  reacts-sound (ongoing e) journal (Some reset) s short = on no_pager no_message
  reacts-sound (ongoing e) journal (Some quit) s short = over
