-- What a line does to the journal: nothing but SEND changes it, errors change nothing at all, SEND is answered with 250 exactly where the page is admitted, and a step leaves a journal that is read again.
use Rattle.std.specs.Prelude.{if◌then◌else◌, Option, None, Some}
use mathlib.Core.Bool.{Bool, true, false, not, false≢true}
use mathlib.Core.List.{List}
use mathlib.Core.Path.{◌≡◌, refl, sym, ap, ◌∙◌}
use Prim.Native.Nat.{ℕ, ◌≤◌}
use native.Mathlib.Omega.{arith}
use lib.ListN.{length}
use Rattle.line.specs.Answer.{done}
use Rattle.line.specs.Character.{byte, printable}
use Rattle.line.specs.Test.{all}
use Rattle.journal.proofs.StorageLaws.{put-journal, read-buffer, read-journal, read-size, stored-own, stored-read}
use Rattle.journal.specs.Encoding.{Journal}
use Rattle.journal.specs.Storage.{Storage, transactions, size_of, decode_in, stored_in}
use Rattle.admission.proofs.ContentLaws.{admits-parts}
use Rattle.admission.specs.Content.{is_pager_id, admits}
use Rattle.central.specs.Inner.{transactions_in}
use Rattle.snpp.specs.Command.{Command, page, message, send, reset, quit, recognized}
use Rattle.snpp.specs.Reaction.{Answer, nothing, ready, goodbye, unknown, order, success, badText, failed, Entry, empty, Session, ongoing, closed, Reaction, goes_on, takes_pager, holds_message, takes_message, sends, reacts, page_of}
use Rattle.snpp.specs.State.{session_of}
use Rattle.snpp.specs.Step.{stepped}
use Rattle.snpp.specs.declared.state.Settings.{Settings}
use Rattle.snpp.specs.declared.state.State.{State}
use Rattle.snpp.proofs.OfferLaws.{page-legal, pager-printable}
use Rattle.snpp.proofs.SessionLaws.{SoundPager, a_pager, SoundMessage, a_message, Sound, on, range-sound}
use Rattle.snpp.proofs.StateLaws.{ranged}
use Rattle.snpp.proofs.StepLaws.{stepped-passes}

-- ── The journal by the command ──

-- an answer that tells of an error, or none
abbrev pub is_error : Answer → Bool
is_error nothing = true
is_error ready = false
is_error success = false
is_error goodbye = false
is_error unknown = true
is_error order = true
is_error badText = true
is_error failed = false

module _ {J : Type 0} where
  -- PAGE leaves it
  pager-keeps : (e : Entry) (journal : J) (text : List ℕ) → (takes_pager e journal text).journal ≡ journal
  pager-keeps e journal text = go (is_pager_id text)
    where
      go : (b : Bool) → (if b then goes_on (record { pager = Some text; message = e.message }) journal success else goes_on e journal badText).journal ≡ journal
      go true = refl
      go false = refl

  -- and so does MESS
  message-keeps : (e : Entry) (journal : J) (text : List ℕ) → (takes_message e journal text).journal ≡ journal
  message-keeps e journal text = go (all printable text) e.message
    where
      go : (b : Bool) (o : Option (List ℕ)) → (if not b then goes_on e journal badText else holds_message e journal text o).journal ≡ journal
      go true None = refl
      go true (Some earlier) = refl
      go false o = refl

  -- PAGE with a bad text
  pager_error : (e : Entry) (journal : J) (text : List ℕ) → is_error (takes_pager e journal text).answer ≡ true → ((takes_pager e journal text).next ≡ ongoing e) × ((takes_pager e journal text).journal ≡ journal)
  pager_error e journal text = go (is_pager_id text)
    where
      go : (b : Bool) → let x = if b then goes_on (record { pager = Some text; message = e.message }) journal success else goes_on e journal badText in
          is_error x.answer ≡ true → (x.next ≡ ongoing e) × (x.journal ≡ journal)
      go true f = absurd (false≢true f)
      go false f = (refl, refl)

  -- MESS with one, or a second one
  message_error : (e : Entry) (journal : J) (text : List ℕ) → is_error (takes_message e journal text).answer ≡ true → ((takes_message e journal text).next ≡ ongoing e) × ((takes_message e journal text).journal ≡ journal)
  message_error e journal text = go (all printable text) e.message
    where
      go : (b : Bool) (o : Option (List ℕ)) → let x = if not b then goes_on e journal badText else holds_message e journal text o in
          is_error x.answer ≡ true → (x.next ≡ ongoing e) × (x.journal ≡ journal)
      go true None f = absurd (false≢true f)
      go true (Some earlier) f = (refl, refl)
      go false o f = (refl, refl)

module _ {J : Type 0} (most : ℕ) (pagers : List ℕ) (store : Storage J) where
  -- nothing but SEND changes it
  pub only_send : (x : Session) (journal : J) (c : Option Command) → (c ≡ Some send → ⊥) → (reacts most pagers store x journal c).journal ≡ journal
  unfolding reacts
  only_send closed journal c other = refl
  only_send (ongoing e) journal None other = refl
  only_send (ongoing e) journal (Some (page text)) other = pager-keeps e journal text
  only_send (ongoing e) journal (Some (message text)) other = message-keeps e journal text
  only_send (ongoing e) journal (Some send) other = absurd (other refl)
  only_send (ongoing e) journal (Some reset) other = refl
  only_send (ongoing e) journal (Some quit) other = refl

  -- what is answered with 500, 503 or 550, or not at all, changes nothing
  pub error_keeps : (x : Session) (journal : J) (c : Option Command) → is_error (reacts most pagers store x journal c).answer ≡ true →
      ((reacts most pagers store x journal c).next ≡ x) × ((reacts most pagers store x journal c).journal ≡ journal)
  unfolding reacts
  error_keeps closed journal c e = (refl, refl)
  error_keeps (ongoing x) journal None e = (refl, refl)
  error_keeps (ongoing x) journal (Some (page text)) e = pager_error x journal text e
  error_keeps (ongoing x) journal (Some (message text)) e = message_error x journal text e
  error_keeps (ongoing x) journal (Some send) e = go x.pager x.message e
    where
      decides : (t : List ℕ) (b : Bool) → is_error (if b then goes_on empty (store.put journal t) success else goes_on empty journal failed).answer ≡ true → ⊥
      decides t true e = false≢true e
      decides t false e = false≢true e

      go : (p m : Option (List ℕ)) → is_error (sends most pagers store x journal p m).answer ≡ true → ((sends most pagers store x journal p m).next ≡ ongoing x) × ((sends most pagers store x journal p m).journal ≡ journal)
      go None m e = (refl, refl)
      go (Some p) None e = (refl, refl)
      go (Some p) (Some m) e = absurd (decides (page_of p m) (admits most pagers store journal (page_of p m)) e)
  error_keeps (ongoing x) journal (Some reset) e = absurd (false≢true e)
  error_keeps (ongoing x) journal (Some quit) e = absurd (false≢true e)

  -- a page is there, the journal admits it, and the next one is the old one and this page
  pub record Stored (e : Entry) (journal after : J) : Type 0 where
    pub pager : List ℕ
    pub text : List ℕ
    pub page_entered : e.pager ≡ Some pager
    pub text_entered : e.message ≡ Some text
    pub admitted : admits most pagers store journal (page_of pager text) ≡ true
    pub put : after ≡ store.put journal (page_of pager text)

  -- 250 to SEND: so it was
  pub sent-stored : (e : Entry) (journal : J) → (reacts most pagers store (ongoing e) journal (Some send)).answer ≡ success → Stored e journal (reacts most pagers store (ongoing e) journal (Some send)).journal
  unfolding reacts
  sent-stored e journal = go e.pager e.message refl refl
    where
      decides : (p m : List ℕ) → e.pager ≡ Some p → e.message ≡ Some m → (b : Bool) → admits most pagers store journal (page_of p m) ≡ b →
          (if b then goes_on empty (store.put journal (page_of p m)) success else goes_on empty journal failed).answer ≡ success →
          Stored e journal (if b then goes_on empty (store.put journal (page_of p m)) success else goes_on empty journal failed).journal
      decides p m f g true h a = record { pager = p; text = m; page_entered = f; text_entered = g; admitted = h; put = refl }
      decides p m f g false h a = let z : ◌≡◌ {A = ℕ} 0 1 = cc in absurd (omega arith)

      go : (p m : Option (List ℕ)) → e.pager ≡ p → e.message ≡ m → (sends most pagers store e journal p m).answer ≡ success → Stored e journal (sends most pagers store e journal p m).journal
      go (Some p) (Some m) f g a = decides p m f g (admits most pagers store journal (page_of p m)) refl a
      go (Some p) None f g a = let z : ◌≡◌ {A = ℕ} 0 1 = cc in absurd (omega arith)
      go None m f g a = let z : ◌≡◌ {A = ℕ} 0 1 = cc in absurd (omega arith)

  -- and where it is so, 250
  pub stored-sent : (e : Entry) (journal after : J) → Stored e journal after → reacts most pagers store (ongoing e) journal (Some send) ≡ record { next = ongoing empty; journal = after; answer = success }
  unfolding reacts
  stored-sent e journal after s = rw (s.page_entered, s.text_entered, s.admitted, s.put)

-- ── A journal stays one ──

-- a page that is stored
stored-journal : (most : ℕ) (pagers : List ℕ) (ts : List (List ℕ)) (p m : Option (List ℕ)) (e : Entry) → SoundPager p → SoundMessage m → most ≤ 2000 → Journal ts →
    Journal (sends most pagers transactions e ts p m).journal
stored-journal most pagers ts None m e s t l j = j
stored-journal most pagers ts (Some p) None e s t l j = j
stored-journal most pagers ts (Some p) (Some m) e (a_pager s) (a_message t short) l j = go (admits most pagers transactions ts (page_of p m)) refl
  where
    go : (b : Bool) → admits most pagers transactions ts (page_of p m) ≡ b →
        Journal (if b then goes_on empty (transactions.put ts (page_of p m)) success else goes_on empty ts failed).journal
    go true h =
        let (right, room) = admits-parts most pagers transactions ts (page_of p m) h in
        put-journal ts (page_of p m) j (page-legal p m (pager-printable p s) t (omega (arith, right.within))) room
    go false h = j

-- whatever a session that can be does
pub reacts-journal : (most : ℕ) (pagers : List ℕ) (x : Session) (ts : List (List ℕ)) (c : Option Command) → Sound x → most ≤ 2000 → Journal ts → Journal (reacts most pagers transactions x ts c).journal
unfolding reacts
reacts-journal most pagers closed ts c s l j = j
reacts-journal most pagers (ongoing e) ts None s l j = j
reacts-journal most pagers (ongoing e) ts (Some (page text)) s l j = rw (pager-keeps e ts text) j
reacts-journal most pagers (ongoing e) ts (Some (message text)) s l j = rw (message-keeps e ts text) j
reacts-journal most pagers (ongoing e) ts (Some send) (on p m) l j = stored-journal most pagers ts e.pager e.message e p m l j
reacts-journal most pagers (ongoing e) ts (Some reset) s l j = j
reacts-journal most pagers (ongoing e) ts (Some quit) s l j = j

-- a step leaves a journal in its buffer, and it is read again
pub step_keeps : (s : State) (settings : Settings) (pagers buffer : List ℕ) (n : ℕ) (line : List ℕ) (room : ℕ) (x : Reaction (List (List ℕ))) →
    all byte buffer ≡ true → length s.pager ≡ 8 → length s.message ≡ 2043 → stepped s settings pagers buffer n line room ≡ done x →
    Journal x.journal × (decode_in (stored_in (done x.journal) buffer) (size_of x.journal) ≡ done x.journal)
step_keeps s settings pagers buffer n line room x bytes eight long e =
    let (p, is) = stepped-passes s settings pagers buffer n line room x e in
    let sound = range-sound s (ranged s p.range) eight long in
    let j = reacts-journal settings.longest pagers (session_of s) (transactions_in buffer n) (recognized line) sound p.longest (read-journal buffer n (transactions_in buffer n) bytes p.journal) in
    rw (← is) (j, stored-read buffer _ (read-buffer buffer n (transactions_in buffer n) bytes p.journal) j)

-- a step on a line that does not say SEND leaves the journal and its buffer as they were
pub step_only_send : (s : State) (settings : Settings) (pagers buffer : List ℕ) (n : ℕ) (line : List ℕ) (room : ℕ) (x : Reaction (List (List ℕ))) →
    all byte buffer ≡ true → stepped s settings pagers buffer n line room ≡ done x → (recognized line ≡ Some send → ⊥) →
    (size_of x.journal ≡ n) × (stored_in (done x.journal) buffer ≡ buffer)
step_only_send s settings pagers buffer n line room x bytes e other =
    let (p, is) = stepped-passes s settings pagers buffer n line room x e in
    let kept : x.journal ≡ transactions_in buffer n = ap (λ y. y.journal) (sym is) ∙ only_send settings.longest pagers transactions (session_of s) (transactions_in buffer n) (recognized line) other in
    rw kept (read-size buffer n (transactions_in buffer n) bytes p.journal, stored-own buffer n (transactions_in buffer n) bytes p.journal)
