-- What the gateway does, by the functions inside a step: where nothing is entered, where a pager ID or a message is, where a page is sent, and where all is forgotten.
use Rattle.std.specs.Prelude.{if◌then◌else◌, Option, None, Some}
use mathlib.Core.Bool.{Bool, true, false, not, ◌||◌, false≢true}
use mathlib.Core.List.{List, []}
use Rattle.std.specs.Option.{unwrap_or}
use mathlib.Core.Path.{◌≡◌, refl, sym, ap, ◌∙◌}
use Prim.Native.Nat.{ℕ}
use native.Mathlib.Omega.{arith}
use lib.Dec.{eqb}
use lib.ListN.{length, take}
use Rattle.line.proofs.OverlayLaws.{overlay-none}
use Rattle.line.specs.Answer.{done, overlay}
use Rattle.line.specs.Character.{byte, printable}
use Rattle.line.specs.Test.{all}
use Rattle.journal.proofs.StorageLaws.{read-size, stored-own}
use Rattle.journal.specs.Storage.{transactions, size_of, stored_in}
use Rattle.admission.specs.Content.{is_pager_id}
use Rattle.central.specs.Inner.{transactions_in}
use Rattle.snpp.specs.Command.{Command, page, message, send, reset, quit}
use Rattle.snpp.specs.Inner.{answer_of, state_of, Ready, reacts_in, Does, is_entered, staying, emptied, pager_taken, Enters, admits_page, with_page, Offers}
use Rattle.snpp.specs.Reaction.{nothing, success, goodbye, order, badText, failed, Entry, empty, ongoing, closed, Reaction, goes_on, holds_message, sends, offers, follows, reacts, page_of}
use Rattle.snpp.specs.State.{no_digits, no_text, saved, message_at, entry_in, is_closed, text_in}
use Rattle.snpp.specs.declared.answer.Answer as Code
use Rattle.snpp.specs.declared.answer.Answer.TheVariants.{Nothing, Success, Goodbye, Unknown, Order, BadText, Failed}
use Rattle.snpp.specs.declared.reaction.Reacted.{Reacted}
use Rattle.snpp.specs.declared.state.Control.{Control}
use Rattle.snpp.specs.declared.state.Settings.{Settings}
use Rattle.snpp.specs.declared.state.Stage.{Stage}
use Rattle.snpp.specs.declared.state.Stage.TheVariants.{Open, Entered, Closed}
use Rattle.snpp.specs.declared.state.State.{State}
use Rattle.snpp.proofs.StateLaws.{Ranged, ranged, range-saved, range-closed}

-- nothing entered, as it is saved in a session that goes on
blank_open : ◌≡◌ {A = State} (record { stage = Open; pager = no_digits; digits = 0; message = no_text; length = 0 }) (saved (ongoing empty))
unfolding overlay
blank_open = refl

-- and in one that is over
blank-closed : ◌≡◌ {A = State} (record { stage = Closed; pager = no_digits; digits = 0; message = no_text; length = 0 }) (saved closed)
unfolding overlay
blank-closed = refl

-- what has passed the tests of a step, over a buffer of bytes
module _ (settings : Settings) (pagers : List ℕ) (k : Control) (array buffer : List ℕ) (n : ℕ) (bytes : all byte buffer ≡ true) (ready : Ready settings k array buffer n) where
  -- the transactions of the journal
  abbrev ts : List (List ℕ)
  ts = transactions_in buffer n

  -- the state, and what has been entered
  abbrev s : State
  s = state_of k array

  abbrev e : Entry
  e = entry_in s

  abbrev range : Ranged s
  range = ranged s ready.range

  -- what changes the session alone
  does_moves : (x : Reaction (List (List ℕ))) {r : Reacted} {array' : List ℕ} → answer_of r.answer ≡ x.answer → state_of r.control array' ≡ saved x.next → r.journal ≡ n → x.journal ≡ ts →
      Does x r array' buffer buffer
  does_moves x a m c j =
      record {
        answers = a;
        state = m;
        counts = c ∙ rw j (sym (read-size buffer n ts bytes ready.journal));
        stored = rw j (sym (stored-own buffer n ts bytes ready.journal));
      }

  -- ── A session that is over ──

  -- nothing is done
  pub does_nothing : is_closed k.stage ≡ true → (c : Option Command) → Does (reacts_in settings pagers k array buffer n c) (staying k Nothing n) array buffer buffer
  unfolding reacts
  does_nothing over c = rw over (does_moves (record { next = closed; journal = ts; answer = nothing }) refl (sym (range-closed s range ready.digits ready.sized over)) refl refl)

  -- ── A session that goes on ──

  module _ (going : is_closed k.stage ≡ false) where
    -- it is saved as the state
    own : saved (ongoing e) ≡ s
    own = range-saved s range ready.digits ready.sized going

    -- it follows the command
    reacts-follows : (c : Option Command) → reacts_in settings pagers k array buffer n c ≡ follows settings.longest pagers transactions e ts c
    unfolding reacts
    reacts-follows c = rw going

    -- an answer that changes nothing
    does_keeps : (a : Code.Answer) → Does (goes_on e ts (answer_of a)) (staying k a n) array buffer buffer
    does_keeps a = does_moves (goes_on e ts (answer_of a)) refl (sym own) refl refl

    -- a command that is not understood
    pub does_unknown : Does (reacts_in settings pagers k array buffer n None) (staying k Unknown n) array buffer buffer
    does_unknown = rw (reacts-follows None) (does_keeps Unknown)

    -- PAGE
    pub does_pager : (text : List ℕ) → Does (reacts_in settings pagers k array buffer n (Some (page text))) (pager_taken k text n) array buffer buffer
    does_pager text = rw (reacts-follows (Some (page text))) (go (is_pager_id text))
      where
        go : (b : Bool) →
            Does (if b then goes_on (record { pager = Some text; message = e.message }) ts success else goes_on e ts (answer_of BadText))
            (if b then staying (record { stage = k.stage; pager = overlay text no_digits; digits = length text; length = k.length }) Success n else staying k BadText n) array buffer buffer
        go true =
            let stage = ap (λ x. x.stage) (sym own) in
            let held = ap (λ x. x.message) (sym own) in
            let count = ap (λ x. x.length) (sym own) in
            does_moves (goes_on (record { pager = Some text; message = e.message }) ts success) refl
            (λ i. record { stage = stage i; pager = overlay text no_digits; digits = length text; message = held i; length = count i }) refl refl
        go false = does_keeps BadText

    -- MESS with a wrong text
    message_wrong : (text : List ℕ) → all printable text ≡ false → reacts_in settings pagers k array buffer n (Some (message text)) ≡ goes_on e ts badText
    message_wrong text p = reacts-follows (Some (message text)) ∙ rw p

    -- with a right one
    message-right : (text : List ℕ) (o : Option (List ℕ)) → all printable text ≡ true → e.message ≡ o →
        reacts_in settings pagers k array buffer n (Some (message text)) ≡ holds_message e ts text o
    message-right text o p m = reacts-follows (Some (message text)) ∙ rw p (ap (holds_message e ts text) m)

    -- MESS
    pub does_message : (text : List ℕ) {r : Reacted} {array' : List ℕ} → Enters k text n r array array' → Does (reacts_in settings pagers k array buffer n (Some (message text))) r array' buffer buffer
    does_message text {r} {array'} w = go (all printable text) k.stage refl refl
      where
        go : (b : Bool) (stage : Stage) → all printable text ≡ b → k.stage ≡ stage → Does (reacts_in settings pagers k array buffer n (Some (message text))) r array' buffer buffer
        go false stage p f = rw (message_wrong text p, w.reacted, w.laid, p) (does_keeps BadText)
        go true Closed p f = absurd (false≢true (sym going ∙ ap is_closed f))
        go true Entered p f =
            let second = ap is_entered f in
            rw (message-right text _ p (ap (λ x. message_at x (text_in s)) f), w.reacted, w.laid, p, second) (does_keeps Order)
        go true Open p f =
            let first = ap is_entered f in
            let held : e.message ≡ None = ap (λ x. message_at x (text_in s)) f in
            let blank : array ≡ no_text = ap (λ x. x.message) (sym own) ∙ ap (λ m. overlay (unwrap_or m []) no_text) held ∙ sym (overlay-none no_text) in
            let pager = ap (λ x. x.pager) (sym own) in
            let digits = ap (λ x. x.digits) (sym own) in
            let laid = ap (overlay text) blank in
            rw (message-right text None p held, w.reacted, w.laid, p, first)
            (does_moves (goes_on (record { pager = e.pager; message = Some text }) ts success) refl
            (λ i. record { stage = Entered; pager = pager i; digits = digits i; message = laid i; length = length text }) refl refl)

    -- RESE
    pub does_reset : Does (reacts_in settings pagers k array buffer n (Some reset)) (emptied Open Success n) no_text buffer buffer
    does_reset = rw (reacts-follows (Some reset)) (does_moves (goes_on empty ts success) refl blank_open refl refl)

    -- QUIT
    pub does_quit : Does (reacts_in settings pagers k array buffer n (Some quit)) (emptied Closed Goodbye n) no_text buffer buffer
    does_quit = rw (reacts-follows (Some quit)) (does_moves (record { next = closed; journal = ts; answer = goodbye }) refl blank-closed refl refl)

    -- ── SEND ──

    -- what has been entered decides
    reacts-sends : (p m : Option (List ℕ)) → e.pager ≡ p → e.message ≡ m → reacts_in settings pagers k array buffer n (Some send) ≡ sends settings.longest pagers transactions e ts p m
    reacts-sends p m f g = reacts-follows (Some send) ∙ ap (λ x. sends settings.longest pagers transactions e ts x e.message) f ∙ ap (sends settings.longest pagers transactions e ts p) g

    -- without a message
    without-message : (p : Option (List ℕ)) → sends settings.longest pagers transactions e ts p None ≡ goes_on e ts order
    without-message None = refl
    without-message (Some p) = refl

    -- something is missing
    pub does_order : not (is_entered k.stage) || eqb k.digits 0 ≡ true → Does (reacts_in settings pagers k array buffer n (Some send)) (staying k Order n) array buffer buffer
    does_order missing = rw (incomplete k.stage refl missing) (does_keeps Order)
      where
        incomplete : (stage : Stage) → k.stage ≡ stage → not (is_entered stage) || eqb k.digits 0 ≡ true →
            reacts_in settings pagers k array buffer n (Some send) ≡ goes_on e ts order
        incomplete Open f m = reacts-sends e.pager None refl (ap (λ x. message_at x (text_in s)) f) ∙ without-message e.pager
        incomplete Entered f m = reacts-sends None e.message (rw m) refl
        incomplete Closed f m = absurd (false≢true (sym going ∙ ap is_closed f))

    -- both are there
    module _ (entered : is_entered k.stage ≡ true) (some-digits : eqb k.digits 0 ≡ false) where
      -- the page
      abbrev pager : List ℕ
      pager = take k.digits k.pager

      abbrev text : List ℕ
      text = text_in s

      -- it is offered
      send_offers : reacts_in settings pagers k array buffer n (Some send) ≡ offers settings.longest pagers transactions ts (page_of pager text)
      send_offers = go k.stage refl
        where
          go : (stage : Stage) → k.stage ≡ stage → reacts_in settings pagers k array buffer n (Some send) ≡ offers settings.longest pagers transactions ts (page_of pager text)
          go Entered f = reacts-sends (Some pager) (Some text) (rw some-digits) (ap (λ x. message_at x text) f)
          go Open f = absurd (false≢true (sym (ap is_entered f) ∙ entered))
          go Closed f = absurd (false≢true (sym (ap is_entered f) ∙ entered))

      -- it is stored, and both are forgotten
      pub does_stored : {a : Option ℕ} {buffer' : List ℕ} (size : ℕ) → Offers settings.longest pagers n pager text a buffer buffer' → a ≡ Some size →
          Does (reacts_in settings pagers k array buffer n (Some send)) (emptied Open Success size) no_text buffer buffer'
      does_stored {a} {buffer'} size w stored = rw send_offers (go (admits_page settings.longest pagers buffer n pager text) w.answers w.leaves)
        where
          go : (b : Bool) → a ≡ (if b then Some (size_of (with_page buffer n pager text)) else None) →
              buffer' ≡ stored_in (done (if b then with_page buffer n pager text else ts)) buffer →
              Does (if b then goes_on empty (with_page buffer n pager text) success else goes_on empty ts failed) (emptied Open Success size) no_text buffer buffer'
          go true f l =
              let long : size ≡ size_of (with_page buffer n pager text) = cc (stored, f) in
              record { answers = refl; state = blank_open; counts = long; stored = l }
          go false f l = let z : ◌≡◌ {A = ℕ} 0 1 = cc (stored, f) in absurd (omega arith)

      -- it is not, and both are forgotten
      pub does_failed : {a : Option ℕ} {buffer' : List ℕ} → Offers settings.longest pagers n pager text a buffer buffer' → a ≡ None →
          Does (reacts_in settings pagers k array buffer n (Some send)) (emptied Open Failed n) no_text buffer buffer'
      does_failed {a} {buffer'} w rejected = rw send_offers (go (admits_page settings.longest pagers buffer n pager text) w.answers w.leaves)
        where
          go : (b : Bool) → a ≡ (if b then Some (size_of (with_page buffer n pager text)) else None) →
              buffer' ≡ stored_in (done (if b then with_page buffer n pager text else ts)) buffer →
              Does (if b then goes_on empty (with_page buffer n pager text) success else goes_on empty ts failed) (emptied Open Failed n) no_text buffer buffer'
          go true f l = let z : ◌≡◌ {A = ℕ} 0 1 = cc (rejected, f) in absurd (omega arith)
          go false f l = record { answers = refl; state = blank_open; counts = sym (read-size buffer n ts bytes ready.journal); stored = l }
