-- What the central does, by the functions inside a step: where nothing is stored, where the transaction goes on, and where it is whole.
use Rattle.std.specs.Prelude.{Result, Ok, Err, Option, Some, None, if◌then◌else◌}
use mathlib.Core.Bool.{Bool, true, false}
use mathlib.Core.List.{List, [], ◌++◌}
use mathlib.Core.Logic.{◌⊎◌, inl, inr}
use mathlib.Core.Path.{◌≡◌, refl, sym, ap, ◌∙◌}
use Prim.Native.Nat.{ℕ, ◌+◌, ◌<◌, ◌≤◌}
use native.Mathlib.Omega.{arith}
use borrow.Author.Tests.{le-ltb, lt-ltb}
use lib.ListN.{length, length-append}
use lib.Seq.{length-take-le}
use Rattle.line.proofs.OverlayLaws.{overlay-none, overlay-own}
use Rattle.line.specs.Answer.{done, outcome_of}
use Rattle.line.specs.Character.{byte}
use Rattle.line.specs.Test.{all}
use Rattle.line.specs.Transaction.{legal}
use Rattle.line.specs.declared.answer.Refusal.{Refusal}
use Rattle.journal.proofs.StorageLaws.{read-size, stored-own}
use Rattle.journal.specs.Storage.{transactions, size_of, stored_in}
use Rattle.admission.proofs.AdmissionLaws.{admit_stores}
use Rattle.admission.specs.Admission.{Admits, admit_to}
use Rattle.admission.specs.Content.{admits}
use Rattle.central.specs.Inner.{Continues, Does, Readable, Shows, Stores, answer_of, central_at, concludes_in, pending_in, takes_in, transactions_in}
use Rattle.central.specs.Reaction.{Answer, ack, rs, Central, Reaction, at}
use Rattle.central.specs.declared.answer.Answer as Code
use Rattle.central.specs.declared.reaction.Reacted.{Reacted}
use Rattle.central.specs.declared.state.Control.{Control}
use Rattle.central.specs.declared.state.Settings.{Settings}
use Rattle.central.specs.declared.state.Stage.{Stage}
use Rattle.central.specs.declared.state.Stage.TheVariants.{Block}

-- what is not stored is rejected or refused
pub other-tag : (a : Result (Option ℕ) Refusal) → ((n : ℕ) → a ≡ Ok (Some n) → ⊥) → (a ≡ Ok None) ⊎ ((r : Refusal) × (a ≡ Err r))
other-tag (Ok (Some n)) h = absurd (h n refl)
other-tag (Ok None) h = inl refl
other-tag (Err r) h = inr (r, refl)

-- an answer of admission that is done and not stored is rejected
pub not-stored : (a : Result (Option ℕ) Refusal) (o : Option ℕ) → (a ≡ Ok None) ⊎ ((r : Refusal) × (a ≡ Err r)) → outcome_of a ≡ done o → outcome_of a ≡ done None
not-stored a o (inl e) h = rw e refl
not-stored a o (inr (r, e)) h = let z : ◌≡◌ {A = ℕ} 0 1 = cc (h, ap outcome_of e) in absurd (omega arith)

-- ── Nothing is stored ──

-- what is done at a stage that is this one
pub does_at : (f : Stage → Central (List (List ℕ)) → Reaction (List (List ℕ))) {x y : Stage} {k : Control} {r : Reacted} → x ≡ y → Does (f y) k r → Does (f x) k r
does_at f e d = rw e d

-- the same where memory is lent
pub stores_at : (f : Stage → Reaction (List (List ℕ))) {x y : Stage} {r : Reacted} {array array' buffer buffer' : List ℕ} → x ≡ y →
    Stores (f y) r array array' buffer buffer' → Stores (f x) r array array' buffer buffer'
stores_at f e d = rw e d

-- a central in which at most the row of failures has changed
pub shows_kept : (k : Control) (n : ℕ) (a : Code.Answer) (b : Answer) (array : List ℕ) (ts : List (List ℕ)) → answer_of a ≡ b → k.length ≤ length array →
    Shows (record { next = record { stage = k.stage; failures = n; pending = pending_in k array; journal = ts }; answer = b }) k array ts
    (record { answer = a; control = record { stage = k.stage; failures = n; length = k.length; journal = k.journal } })
shows_kept k n a b array ts e h =
    record { answers = e; control = rw (length-take-le k.length array h); kept = sym (overlay-own k.length array h); keeps = refl }

-- a central that has nothing unfinished
pub shows-none : (k : Control) (stage : Stage) (a : Code.Answer) (array : List ℕ) (ts : List (List ℕ)) →
    Shows (record { next = at stage [] ts; answer = answer_of a }) k array ts (record { answer = a; control = record { stage = stage; failures = 0; length = 0; journal = k.journal } })
shows-none k stage a array ts = record { answers = refl; control = refl; kept = sym (overlay-none array); keeps = refl }

-- a journal that is read at the start of a buffer of bytes
module _ (k : Control) (buffer : List ℕ) (bytes : all byte buffer ≡ true) (read : Readable buffer k.journal) where
  -- the transactions that it holds
  abbrev held : List (List ℕ)
  held = transactions_in buffer k.journal

  -- what stores nothing leaves the memory as it was
  pub does_stores : (f : Central (List (List ℕ)) → Reaction (List (List ℕ))) {r : Reacted} (array : List ℕ) → k.length ≤ length array → Does f k r →
      Stores (f (central_at k array held)) r array array buffer buffer
  does_stores f array h does =
      let d = does array held h in
      record {
        answers = d.answers;
        control = rw (d.keeps, read-size buffer k.journal held bytes read) d.control;
        pending = sym d.kept;
        stored = rw d.keeps (sym (stored-own buffer k.journal held bytes read));
      }

  -- ── A block is taken ──

  -- a block with which the transaction is over L is refused
  pub takes-over : (settings : Settings) (pagers array t : List ℕ) (goes_on : Bool) {r : Reacted} → k.length ≤ length array → settings.longest < length t →
      Does (λ c. record { next = at Block [] c.journal; answer = rs }) k r → Stores (takes_in settings pagers k array buffer t goes_on) r array array buffer buffer
  takes-over settings pagers array t goes_on h over does =
      rw (lt-ltb settings.longest (length t) over) (does_stores (λ c. record { next = at Block [] c.journal; answer = rs }) array h does)

  -- a block with which the transaction goes on is laid behind the unfinished information
  pub takes-on : (settings : Settings) (pagers array array' info : List ℕ) {r : Reacted} → k.length ≤ length array →
      length (pending_in k array ++ info) ≤ settings.longest → Continues k info r array array' →
      Stores (takes_in settings pagers k array buffer (pending_in k array ++ info) true) r array array' buffer buffer
  takes-on settings pagers array array' info h short c =
      let t = pending_in k array ++ info in
      let long : k.length + length info ≡ length t = sym (length-append (pending_in k array) info ∙ rw (length-take-le k.length array h)) in
      rw (le-ltb settings.longest (length t) short, c.reacted)
      record {
        answers = refl;
        control = rw (long, read-size buffer k.journal held bytes read);
        pending = c.laid;
        stored = sym (stored-own buffer k.journal held bytes read);
      }

  -- ── A whole transaction ──

  module _ (settings : Settings) (pagers t : List ℕ) (good : legal t ≡ true) {a : Result (Option ℕ) Refusal} {buffer' : List ℕ}
      (w : Admits (admit_to settings.longest pagers buffer k.journal t) a buffer buffer') where
    -- what admission asks
    abbrev fits : Bool
    fits = admits settings.longest pagers transactions held t

    -- and what it leaves
    admitted : (outcome_of a ≡ done (if fits then Some (size_of (transactions.put held t)) else None)) ×
        (buffer' ≡ stored_in (done (if fits then transactions.put held t else held)) buffer)
    admitted = admit_stores settings.longest pagers buffer k.journal t held bytes read good w

    -- it is admitted, and stored
    pub concludes-stored : (array : List ℕ) (u : Control) {r : Reacted} → outcome_of a ≡ done (Some u.journal) → u.length ≤ length array →
        Does (λ c. record { next = at Block [] c.journal; answer = ack }) u r → Stores (concludes_in settings pagers k array buffer t) r array array buffer buffer'
    concludes-stored array u {r} e h does = go fits refl
      where
        go : (b : Bool) → fits ≡ b → Stores (concludes_in settings pagers k array buffer t) r array array buffer buffer'
        go true f =
            let d = does array (transactions.put held t) h in
            let size : size_of (transactions.put held t) ≡ u.journal = cc (e, rw f at admitted.0) in
            rw f record { answers = d.answers; control = rw size d.control; pending = sym d.kept; stored = rw f at admitted.1 }
        go false f = let z : ◌≡◌ {A = ℕ} 0 1 = cc (e, rw f at admitted.0) in absurd (omega arith)

    -- it is not
    pub concludes-dropped : (array : List ℕ) {r : Reacted} → ((n : ℕ) → a ≡ Ok (Some n) → ⊥) → k.length ≤ length array →
        Does (λ c. record { next = at Block [] c.journal; answer = rs }) k r → Stores (concludes_in settings pagers k array buffer t) r array array buffer buffer'
    concludes-dropped array {r} e h does = go fits refl
      where
        go : (b : Bool) → fits ≡ b → Stores (concludes_in settings pagers k array buffer t) r array array buffer buffer'
        go true f = let z : ◌≡◌ {A = ℕ} 0 1 = cc (not-stored a _ (other-tag a e) admitted.0, rw f at admitted.0) in absurd (omega arith)
        go false f =
            let d = does_stores (λ c. record { next = at Block [] c.journal; answer = rs }) array h does in
            rw f record { answers = d.answers; control = d.control; pending = d.pending; stored = rw f at admitted.1 }
