-- The start leads to the states in range, and to no others: what a step leaves can be, and what can be is brought about by PAGE, MESS and QUIT.
use mathlib.Core.Bool.{true, ◌&&◌}
use mathlib.Core.List.{List, [], ◌∷◌, ◌++◌}
use Rattle.std.specs.Prelude.{Option, None, Some}
use mathlib.Core.Path.{◌≡◌, refl, ap, subst, ◌∙◌}
use Prim.Native.Nat.{ℕ, ◌≤◌}
use native.Mathlib.Omega.{arith}
use borrow.Author.Tests.{eq-eqb}
use lib.ListN.{length, replicate, length-replicate}
use Rattle.line.specs.Answer.{done}
use Rattle.line.specs.Character.{printable}
use Rattle.line.specs.Test.{all}
use Rattle.line.specs.Text.{bytes_of}
use Rattle.journal.proofs.StorageLaws.{stored-read}
use Rattle.journal.specs.Encoding.{all_legal, records_of}
use Rattle.journal.specs.Storage.{transactions, size_of, is_buffer, decode_in, stored_in}
use Rattle.admission.specs.Content.{is_pager_id}
use Rattle.central.specs.Inner.{transactions_in}
use Rattle.central.specs.Step.{pagers_in_range}
use Rattle.snpp.specs.Command.{Command, page, message, quit, SPACE, Says, pages, messages, quits, recognized}
use Rattle.snpp.specs.Driver.{Reached, begun, onward}
use Rattle.snpp.specs.Reaction.{empty, Session, ongoing, closed, reacts}
use Rattle.snpp.specs.State.{saved, session_of, in_range}
use Rattle.snpp.specs.Step.{settings_in_range, stepped}
use Rattle.snpp.specs.declared.state.Settings.{Settings}
use Rattle.snpp.specs.declared.state.State.{State}
use Rattle.snpp.proofs.CommandLaws.{own_letters, says_recognized, text-behind}
use Rattle.snpp.proofs.SessionLaws.{SoundPager, no_pager, a_pager, SoundMessage, no_message, a_message, Sound, over, on, Short, session_saved, sound-range, sound-sized, range-sound, reacts-sound}
use Rattle.snpp.proofs.StateLaws.{ranged, pager-short, eight_digits, saved_session}
use Rattle.snpp.proofs.StepLaws.{stepped-passes, tested-done}

-- ── To no others ──

-- the message of a line in range is short enough
pub line-short : (line : List ℕ) → length line ≤ 2048 → Short (recognized line)
line-short line h text e = omega (arith, text-behind line (message text) text e refl)

-- a state to which the start leads is that of a session that can be
reached-sound : {s : State} → Reached s → (x : Session) × (s ≡ saved x) × Sound x
reached-sound begun = (ongoing empty, refl, on no_pager no_message)
reached-sound (onward {s} {x} before settings pagers buffer n line room e) =
    let (y, is, sound) = reached-sound before in
    let (p, made) = stepped-passes s settings pagers buffer n line room x e in
    let same : session_of s ≡ y = ap session_of is ∙ session_saved y sound in
    let next = reacts-sound settings.longest pagers transactions (session_of s) (transactions_in buffer n) (recognized line) (rw same sound) (line-short line p.short) in
    (x.next, refl, rw made at next)

-- so it is in range, and its arrays have their sizes
pub reached_in_range : {s : State} → Reached s → (in_range s ≡ true) × (length s.pager ≡ 8) × (length s.message ≡ 2043)
reached_in_range r =
    let (x, is, sound) = reached-sound r in
    let (eight, long) = sound-sized x sound in
    rw is (sound-range x sound, eight, long)

-- ── To each ──

-- over a journal that is read, a step from a session that can be is what the session does
pub step-reacts : (x : Session) (settings : Settings) (pagers buffer : List ℕ) (n : ℕ) (ts : List (List ℕ)) (line : List ℕ) (room : ℕ) → Sound x → settings_in_range settings ≡ true → pagers_in_range pagers ≡ true →
    decode_in buffer n ≡ done ts → length line ≤ 2048 → 6 ≤ room →
    stepped (saved x) settings pagers buffer n line room ≡ done (reacts settings.longest pagers transactions x ts (recognized line))
unfolding stepped
step-reacts x settings pagers buffer n ts line room sound setting listing read short roomy =
    let ranged : settings_in_range settings && pagers_in_range pagers && in_range (saved x) ≡ true = rw (setting, listing, sound-range x sound) in
    rw (tested-done (saved x) settings pagers buffer n (length line) room ranged roomy ts read short, session_saved x sound)

-- memory of a journal's size
abbrev memory : List ℕ
memory = replicate 32004 0

-- with an empty journal in it
abbrev buffer : List ℕ
buffer = stored_in (done []) memory

buffer-read : decode_in buffer (size_of []) ≡ done []
unfolding is_buffer all_legal records_of
buffer-read = stored-read memory [] (eq-eqb (length memory) 32004 (length-replicate {A = ℕ} 32004 0)) (record { each = refl; few = omega arith; small = omega arith })

-- a list of no pagers is in range
no_pagers : pagers_in_range [] ≡ true
unfolding all
no_pagers = refl

-- a line leads on
leads : (x : Session) (line : List ℕ) (c : Command) → Sound x → length line ≤ 2048 → Says line c → Reached (saved x) → Reached (saved (reacts 2000 [] transactions x [] (Some c)).next)
leads x line c sound short says before =
    let step = step-reacts x (record { longest = 2000 }) [] buffer (size_of []) [] line 6 sound refl no_pagers buffer-read short (omega arith) in
    rw (says_recognized says) at (onward before (record { longest = 2000 }) [] buffer (size_of []) line 6 step)

-- PAGE with a pager ID
pager-leads : (p : List ℕ) → is_pager_id p ≡ true → Reached (saved (ongoing (record { pager = Some p; message = None })))
unfolding reacts
pager-leads p h =
    let short = pager-short p h in
    rw h at (leads (ongoing empty) (bytes_of "PAGE" ++ SPACE ∷ p) (page p) (on no_pager no_message) (omega (arith, short, eight_digits)) (pages p (own_letters (bytes_of "PAGE"))) begun)

-- a pager ID or none
entry_leads : (o : Option (List ℕ)) → SoundPager o → Reached (saved (ongoing (record { pager = o; message = None })))
entry_leads None no_pager = begun
entry_leads (Some p) (a_pager h) = pager-leads p h

-- MESS with a message behind it
message-leads : (o : Option (List ℕ)) → SoundPager o → (m : List ℕ) → all printable m ≡ true → length m ≤ 2043 → Reached (saved (ongoing (record { pager = o; message = Some m })))
unfolding reacts
message-leads o s m h l =
    rw h at (leads (ongoing (record { pager = o; message = None })) (bytes_of "MESS" ++ SPACE ∷ m) (message m) (on s no_message) (omega arith) (messages m (own_letters (bytes_of "MESS"))) (entry_leads o s))

-- every session that can be is led to
sound-reached : (x : Session) → Sound x → Reached (saved x)
unfolding reacts
sound-reached closed over = leads (ongoing empty) (bytes_of "QUIT") quit (on no_pager no_message) (omega arith) (quits (own_letters (bytes_of "QUIT"))) begun
sound-reached (ongoing e) (on p m) = go e.message m
  where
    go : (o : Option (List ℕ)) → SoundMessage o → Reached (saved (ongoing (record { pager = e.pager; message = o })))
    go None no_message = entry_leads e.pager p
    go (Some m) (a_message h l) = message-leads e.pager p m h l

-- and so is every state in range
pub in_range-reached : (s : State) → in_range s ≡ true → length s.pager ≡ 8 → length s.message ≡ 2043 → Reached s
in_range-reached s h eight long =
    let r = ranged s h in
    subst Reached (saved_session s r eight long) (sound-reached (session_of s) (range-sound s r eight long))
