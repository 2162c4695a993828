-- Larger limits lose no decision: the two runs go through equal worlds until the one with the smaller limits is dead, and from there it decides nothing.
use Rattle.std.specs.Prelude.{if◌then◌else◌}
use mathlib.Core.Bool.{Bool, true, false, ◌&&◌, ◌||◌, false≢true}
use mathlib.Core.List.{List, [], ◌∷◌, ◌++◌, tail}
use mathlib.Core.Logic.{◌⊎◌, inl, inr}
use mathlib.Core.Option.{Option, none, some}
use mathlib.Core.Path.{◌≡◌, refl, sym, ◌∙◌, ap}
use borrow.Author.Tests.{ltb-true, lt-ltb, leb-true, le-leb}
use lib.Dec.{ltb, leb}
use native.Mathlib.Omega.{arith}
use Prim.Native.Nat.{ℕ, zero, suc, ◌≤◌}
use Rattle.line.proofs.OutcomeLaws.{choice}
use Rattle.block.specs.Block.{Segment}
use Rattle.central.specs.Reaction.{Answer, nothing, idRequest, acceptance, ack, nak, rs, hangUp}
use Rattle.device.specs.declared.state.Verdict.{Verdict}
use Rattle.device.specs.declared.state.Verdict.TheVariants.{Accepted, Rejected, Unconfirmed, Deferred}
use Rattle.demand.proofs.Messages.{Parameters, Limits, Message, silence, noise, hello, login, bye, carries, ◌is◌, Effect, whole, lost, garbled, Effects, effects, arrives, returns, next}
use Rattle.demand.proofs.Model.{CentralPhase, idle, closed, logon, blocks, Response, failure, hears, opening, loggingOn, closing, sending, stopped, Device, device, transmits, begin, acked, reads, ModelEnds, model_ends, answered, sent, exchange, run, start, played}
use Rattle.demand.specs.Demand.{decided}
use Rattle.demand.proofs.Tests.{device_of, looser, branches, decided-append}

-- the decisions of a device
unfoldable pub count : Device → ℕ
count (device p left told) = decided told

-- a verdict at which the device stops is no decision
stop_count : (c : Bool) (told : List Verdict) → decided (told ++ (if c then Deferred else Unconfirmed) ∷ []) ≡ decided told
unfolding decided
stop_count true told = omega (arith, decided-append told (Deferred ∷ []))
stop_count false told = omega (arith, decided-append told (Unconfirmed ∷ []))

module _ (R : Parameters) where
  -- to go on is no decision
  begin-count : (left : List (List ℕ)) (told : List Verdict) → count (begin R left told) ≡ decided told
  unfolding begin count
  begin-count [] told = refl
  begin-count (t ∷ ts) told = refl

  -- the line is closed or the device has stopped
  data Dead : ModelEnds R.J → Type 0 where
    severed : {d : Device} {j : R.J} → Dead (model_ends d closed j)
    halted : {left : List (List ℕ)} {told : List Verdict} {s : CentralPhase} {j : R.J} → Dead (model_ends (device stopped left told) s j)

  -- ── The decisions only grow ──

  -- as many decisions
  abbrev Still : Device → Device → Type 0
  Still d d' = count d' ≡ count d

  -- at least as many decisions
  abbrev pub Grows : Device → Device → Type 0
  Grows d d' = count d ≤ count d'

  -- ACK loses no decision
  acked_grows : (b : Segment) (bs : List Segment) (a : ℕ) (left : List (List ℕ)) (told : List Verdict) →
      Grows (device (sending b bs a) left told) (acked R bs left told)
  unfolding count acked decided
  acked_grows b [] a left told =
      omega (arith, begin-count (tail left) (told ++ Accepted ∷ []), decided-append told (Accepted ∷ []))
  acked_grows b (c ∷ bs) a left told = omega arith

  module _ (L : Limits) where
    -- no answer loses a decision
    reads_grows : (x : Answer) (d : Device) → Grows d (reads R L x d)
    unfolding count reads decided
    reads_grows x (device (opening a) left told) =
        let P = Grows (device (opening a) left told) in
        choice P (x is idRequest) (λ e. omega arith) (λ e. choice P (ltb a 3) (λ e. omega arith) (λ e. omega arith))
    reads_grows x (device (loggingOn a) left told) =
        let P = Grows (device (loggingOn a) left told) in
        choice P (x is acceptance) (λ e. omega (arith, begin-count left told))
        (λ e. choice P ((x is nak || x is idRequest) && leb a L.D) (λ e. omega arith) (λ e. omega arith))
    reads_grows x (device (sending b bs a) left told) =
        let P = Grows (device (sending b bs a) left told) in
        choice P (x is ack) (λ e. acked_grows b bs a left told)
        (λ e. choice P (x is rs)
        (λ e. omega (arith, begin-count (tail left) (told ++ Rejected ∷ []), decided-append told (Rejected ∷ [])))
        (λ e. choice P (x is nak && leb a L.D) (λ e. omega arith)
        (λ e. omega (arith, stop_count (x is nak || x is hangUp) told))))
    reads_grows x (device (closing a) left told) =
        choice (Grows (device (closing a) left told)) (x is nak && leb a L.D) (λ e. omega arith) (λ e. omega arith)
    reads_grows x (device stopped left told) = omega arith

    -- no string does
    sent_grows : (m : Effects) (d : Device) (s : CentralPhase) (j : R.J) (o : Option Message) → Grows d (device_of (sent R L m d s j o))
    unfolding sent answered
    sent_grows m d s j none = omega arith
    sent_grows (effects h k) d s j (some c) = reads_grows _ d

    -- no transmission does
    exchange_grows : (m : Effects) (w : ModelEnds R.J) → Grows (device_of w) (device_of (exchange R L m w))
    unfolding exchange
    exchange_grows m (model_ends (device p left told) s j) = sent_grows m (device p left told) s j (transmits p)

    -- no run does
    run_grows : (n : ℕ) (ms : List Effects) (w : ModelEnds R.J) → Grows (device_of w) (device_of (run R L n ms w))
    unfolding run
    run_grows zero ms w = omega arith
    run_grows (suc n) ms w =
        omega (arith, exchange_grows (next ms) w, run_grows n (tail ms) (exchange R L (next ms) w))

    -- a longer run has at least as many
    run-longer : (n m : ℕ) (ms : List Effects) (w : ModelEnds R.J) → n ≤ m → Grows (device_of (run R L n ms w)) (device_of (run R L m ms w))
    unfolding run
    run-longer zero m ms w h = run_grows m ms w
    run-longer (suc n) zero ms w h = absurd (omega arith)
    run-longer (suc n) (suc m) ms w h = run-longer n m (tail ms) (exchange R L (next ms) w) (omega arith)

    -- ── What decides nothing ──

    -- only ACK and RS decide
    reads_still : (x : Answer) → x is ack ≡ false → x is rs ≡ false → (d : Device) → Still d (reads R L x d)
    unfolding count reads
    reads_still x e₁ e₂ (device (opening a) left told) =
        let P = Still (device (opening a) left told) in
        choice P (x is idRequest) (λ e. refl) (λ e. choice P (ltb a 3) (λ e. refl) (λ e. refl))
    reads_still x e₁ e₂ (device (loggingOn a) left told) =
        let P = Still (device (loggingOn a) left told) in
        choice P (x is acceptance) (λ e. begin-count left told)
        (λ e. choice P ((x is nak || x is idRequest) && leb a L.D) (λ e. refl) (λ e. refl))
    reads_still x e₁ e₂ (device (sending b bs a) left told) =
        let P = Still (device (sending b bs a) left told) in
        choice P (x is ack) (λ e. absurd (false≢true (sym e₁ ∙ e)))
        (λ e. choice P (x is rs) (λ e. absurd (false≢true (sym e₂ ∙ e)))
        (λ e. choice P (x is nak && leb a L.D) (λ e. refl) (λ e. stop_count (x is nak || x is hangUp) told)))
    reads_still x e₁ e₂ (device (closing a) left told) =
        choice (Still (device (closing a) left told)) (x is nak && leb a L.D) (λ e. refl) (λ e. refl)
    reads_still x e₁ e₂ (device stopped left told) = refl

    -- to hang up decides nothing
    hangup_still : (k : Effect) (d : Device) → Still d (reads R L (returns k hangUp) d)
    hangup_still whole d = reads_still hangUp refl refl d
    hangup_still lost d = reads_still nothing refl refl d
    hangup_still garbled d = reads_still nothing refl refl d

    -- nor does no answer
    nothing_still : (k : Effect) (d : Device) → Still d (reads R L (returns k nothing) d)
    nothing_still whole d = reads_still nothing refl refl d
    nothing_still lost d = reads_still nothing refl refl d
    nothing_still garbled d = reads_still nothing refl refl d

    -- a closed central answers nothing
    closed-hears : (j : R.J) (c : Message) → hears R L closed j c ≡ record { step = closed; journal = j; answer = nothing }
    unfolding hears
    closed-hears j silence = refl
    closed-hears j noise = refl
    closed-hears j hello = refl
    closed-hears j login = refl
    closed-hears j bye = refl
    closed-hears j (carries b) = refl

    -- with a closed central nothing is decided
    sent_dead : (m : Effects) (d : Device) (j : R.J) (o : Option Message) →
        Dead (sent R L m d closed j o) × Still d (device_of (sent R L m d closed j o))
    unfolding sent answered
    sent_dead m d j none = (severed, refl)
    sent_dead (effects h k) d j (some c) = rw (closed-hears j (arrives h c)) (severed, nothing_still k d)

    -- a dead model_ends stays dead, and decides nothing
    exchange_dead : (m : Effects) {w : ModelEnds R.J} → Dead w → Dead (exchange R L m w) × Still (device_of w) (device_of (exchange R L m w))
    unfolding exchange sent
    exchange_dead m (severed {d = device p left told} {j = j}) = sent_dead m (device p left told) j (transmits p)
    exchange_dead m halted = (halted, refl)

  -- ── Two limits, the second at least as large ──

  module _ (L L' : Limits) (more-D : L.D ≤ L'.D) (more-C : L.C ≤ L'.C) where
    -- u under L and u' under L' come after d: they agree, or L's device has stopped
    abbrev ReadAlike : Device → Device → Device → Type 0
    ReadAlike d u u' = (u ≡ u') ⊎ ((left : List (List ℕ)) × (told : List Verdict) × (u ≡ device stopped left told) × (count u ≡ count d))

    -- what the smaller limit allows, the larger does
    tried : (a : ℕ) → leb a L.D ≡ true → leb a L'.D ≡ true
    tried a e = le-leb a L'.D (omega (arith, leb-true a L.D e))

    -- an answer is read alike
    reads_alike : (x : Answer) (d : Device) → ReadAlike d (reads R L x d) (reads R L' x d)
    unfolding reads count
    reads_alike x (device (opening a) left told) = inl refl
    reads_alike x (device (loggingOn a) left told) =
        let P = ReadAlike (device (loggingOn a) left told) in
        branches P (x is acceptance) (inl refl)
        (looser P (x is nak || x is idRequest) (leb a L.D) (leb a L'.D) (tried a) (λ z. inl refl) (inr (left, told, refl, refl)))
    reads_alike x (device (sending b bs a) left told) =
        let P = ReadAlike (device (sending b bs a) left told) in
        branches P (x is ack) (inl refl)
        (branches P (x is rs) (inl refl)
        (looser P (x is nak) (leb a L.D) (leb a L'.D) (tried a) (λ z. inl refl)
        (inr (_, _, refl, stop_count (x is nak || x is hangUp) told))))
    reads_alike x (device (closing a) left told) =
        looser (ReadAlike (device (closing a) left told)) (x is nak) (leb a L.D) (leb a L'.D) (tried a) (λ z. inl refl)
        (inr (left, told, refl, refl))
    reads_alike x (device stopped left told) = inl refl

    -- two replies agree, or with the first the central hangs up
    abbrev HeardAlike : Response R.J → Response R.J → Type 0
    HeardAlike r r' = (r ≡ r') ⊎ ((j : R.J) × (r ≡ record { step = closed; journal = j; answer = hangUp }))

    -- a failure is answered alike
    failure_alike : (at : ℕ → CentralPhase) (f : ℕ) (j : R.J) → HeardAlike (failure R L at f j) (failure R L' at f j)
    unfolding failure
    failure_alike at f j =
        looser HeardAlike true (ltb f L.C) (ltb f L'.C) (λ e. lt-ltb f L'.C (omega (arith, ltb-true f L.C e)))
        (λ z. inl refl) (inr (j, refl))

    -- a string is heard alike
    hears_alike : (s : CentralPhase) (j : R.J) (c : Message) → HeardAlike (hears R L s j c) (hears R L' s j c)
    unfolding hears
    hears_alike s j silence = inl refl
    hears_alike idle j noise = inl refl
    hears_alike idle j hello = inl refl
    hears_alike idle j login = inl refl
    hears_alike idle j bye = inl refl
    hears_alike idle j (carries b) = inl refl
    hears_alike (logon f) j noise = failure_alike logon f j
    hears_alike (logon f) j hello = inl refl
    hears_alike (logon f) j login = branches HeardAlike R.match (inl refl) (failure_alike logon f j)
    hears_alike (logon f) j bye = failure_alike logon f j
    hears_alike (logon f) j (carries b) = failure_alike logon f j
    hears_alike (blocks f p) j noise = failure_alike (λ n. blocks n p) f j
    hears_alike (blocks f p) j hello = failure_alike (λ n. blocks n p) f j
    hears_alike (blocks f p) j login = failure_alike (λ n. blocks n p) f j
    hears_alike (blocks f p) j bye = inl refl
    hears_alike (blocks f p) j (carries b) = inl refl
    hears_alike closed j noise = inl refl
    hears_alike closed j hello = inl refl
    hears_alike closed j login = inl refl
    hears_alike closed j bye = inl refl
    hears_alike closed j (carries b) = inl refl

    -- worlds that agree, or the first is dead with no more decisions than d
    abbrev Alike : Device → ModelEnds R.J → ModelEnds R.J → Type 0
    Alike d u u' = (u ≡ u') ⊎ (Dead u × Still d (device_of u))

    -- the same reply is read alike
    same-reply : (k : Effect) (d : Device) (r : Response R.J) → Alike d (answered R L k d r) (answered R L' k d r)
    unfolding answered
    same-reply k d r = go (reads_alike (returns k r.answer) d)
      where
        go : {u u' : Device} → ReadAlike d u u' → Alike d (model_ends u r.step r.journal) (model_ends u' r.step r.journal)
        go (inl e) = inl (ap (λ (z : Device). model_ends z r.step r.journal) e)
        go (inr (left, told, e, c)) = inr (rw e halted, c)

    -- replies that are alike are read alike
    answered_alike : (k : Effect) (d : Device) {r r' : Response R.J} → HeardAlike r r' → Alike d (answered R L k d r) (answered R L' k d r')
    answered_alike k d {r} (inl e) = rw (← e) (same-reply k d r)
    answered_alike k d (inr (j, e)) = unfold answered in rw e (inr (severed, hangup_still L k d))

    -- a string is carried alike
    sent_alike : (m : Effects) (d : Device) (s : CentralPhase) (j : R.J) (o : Option Message) → Alike d (sent R L m d s j o) (sent R L' m d s j o)
    unfolding sent
    sent_alike m d s j none = inl refl
    sent_alike (effects h k) d s j (some c) = answered_alike k d (hears_alike s j (arrives h c))

    -- a transmission goes alike
    exchange_alike : (m : Effects) (w : ModelEnds R.J) → Alike (device_of w) (exchange R L m w) (exchange R L' m w)
    unfolding exchange
    exchange_alike m (model_ends (device p left told) s j) = sent_alike m (device p left told) s j (transmits p)

    -- worlds that agree, or the first is dead with no more decisions than the second
    abbrev Behind : ModelEnds R.J → ModelEnds R.J → Type 0
    Behind u u' = (u ≡ u') ⊎ (Dead u × Grows (device_of u) (device_of u'))

    -- a transmission keeps the first behind
    exchange-behind : (m : Effects) (u u' : ModelEnds R.J) → Behind u u' → Behind (exchange R L m u) (exchange R L' m u')
    exchange-behind m u u' (inl e) = rw (← e) (go (exchange_alike m u))
      where
        go : Alike (device_of u) (exchange R L m u) (exchange R L' m u) → Behind (exchange R L m u) (exchange R L' m u)
        go (inl e) = inl e
        go (inr (x, c)) = inr (x, omega (arith, exchange_grows L' m u))
    exchange-behind m u u' (inr (x, g)) =
        let y = exchange_dead L m x in
        inr (y.0, omega (arith, y.1, exchange_grows L' m u'))

    -- so does a run
    run-behind : (n : ℕ) (ms : List Effects) (u u' : ModelEnds R.J) → Behind u u' → Behind (run R L n ms u) (run R L' n ms u')
    unfolding run
    run-behind zero ms u u' h = h
    run-behind (suc n) ms u u' h = run-behind n (tail ms) (exchange R L (next ms) u) (exchange R L' (next ms) u') (exchange-behind (next ms) u u' h)

    -- what is behind has decided no more
    behind_grows : {u u' : ModelEnds R.J} → Behind u u' → Grows (device_of u) (device_of u')
    behind_grows {u} (inl e) = rw (← e) (omega arith)
    behind_grows (inr (x, g)) = g

    -- a run that goes on at least as long under larger limits decides at least as much
    pub decides-more : (n n' : ℕ) → n ≤ n' → (job : List (List ℕ)) (j : R.J) (ms : List Effects) →
        Grows (device_of (played R L n job j ms)) (device_of (played R L' n' job j ms))
    unfolding played
    decides-more n n' h job j ms =
        let w = start R job j in
        omega (arith, behind_grows (run-behind n ms w w (inl refl)), run-longer L' n n' ms w h)
