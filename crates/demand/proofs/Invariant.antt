-- A run follows the clean run as far as it goes: `Good` holds at its start and after each transmission.
-- `Calm` is what must not hold where damage is done: ⊥ for any run, and Unit for one without damage, which then reaches the end of the job.
use Rattle.std.specs.Prelude.{if◌then◌else◌}
use mathlib.Core.Bool.{Bool, true, false, not, ◌&&◌, ◌||◌, true≢false, false≢true}
use mathlib.Core.List.{List, [], ◌∷◌, ◌++◌, foldl, foldl-append, append_assoc}
use mathlib.Core.Logic.{◌⊎◌, inl, inr}
use mathlib.Core.Path.{◌≡◌, refl, sym, ◌∙◌, ap}
use lib.Dec.{ltb, leb}
use lib.Seq.{append_snoc}
use Prim.Native.Nat.{ℕ, zero, suc}
use Rattle.line.proofs.OutcomeLaws.{choice}
use Rattle.block.specs.Block.{Segment}
use Rattle.central.specs.Reaction.{Answer, nothing, idRequest, acceptance, ack, nak, rs, hangUp}
use Rattle.device.specs.declared.state.Verdict.{Verdict}
use Rattle.device.specs.declared.state.Verdict.TheVariants.{Accepted, Rejected, Unconfirmed, Deferred}
use Rattle.demand.specs.Demand.{Undecided}
use Rattle.demand.proofs.Messages.{last, Parameters, Limits, hello, login, bye, carries, ◌is◌, refused, Effect, whole, lost, garbled, Effects, effects, arrives, returns}
use Rattle.demand.proofs.Model.{CentralPhase, idle, closed, logon, blocks, Response, takes, failure, hears, opening, loggingOn, closing, sending, stopped, Device, device, begin, acked, reads, ModelEnds, model_ends, answered, sent, exchange, run, played, halts_at}
use Rattle.demand.specs.Clean.{all_judged, judged, stored}
use Rattle.demand.proofs.CleanModel.{judged_by, stored_by, all_judged_by}
use Rattle.demand.proofs.Claim.{Laws, Pieces, final, piece, WellCut, cut-next}
use Rattle.demand.proofs.Tests.{device_of}

-- why a block is refused: f it fits, l it is the last, a the whole is admitted
why_refused : (f l a : Bool) → not f || (l && not a) ≡ true → (f ≡ false) ⊎ ((l ≡ true) × (a ≡ false))
why_refused false l a x = inl refl
why_refused true false a x = absurd (false≢true x)
why_refused true true false x = inr (refl, refl)
why_refused true true true x = absurd (false≢true x)

-- the last block passes only where the whole is admitted
why_passed : (f l a : Bool) → l ≡ true → not f || (l && not a) ≡ false → a ≡ true
why_passed f l true e x = refl
why_passed false l false e x = absurd (true≢false x)
why_passed true true false e x = absurd (true≢false x)
why_passed true false false e x = absurd (false≢true e)

-- what does not hold is false
not-true : (c : Bool) → (c ≡ true → ⊥) → c ≡ false
not-true true h = absurd (h refl)
not-true false h = refl

module _ (R : Parameters) where
  open R use {J, admits, fits, match}

  -- a block of t that is refused, when the information so far is q: the journal does not admit t
  refused-not : (j : J) (t q : List ℕ) (b : Segment) → (last b ≡ true → q ≡ t) → (admits j t ≡ true → fits q ≡ true) →
      refused R j q b ≡ true → admits j t ≡ false
  refused-not j t q b w g x = go (why_refused (fits q) (last b) (admits j q) x)
    where
      go : (fits q ≡ false) ⊎ ((last b ≡ true) × (admits j q ≡ false)) → admits j t ≡ false
      go (inl e) = not-true (admits j t) (λ y. false≢true (sym e ∙ g y))
      go (inr (l, e)) = ap (admits j) (sym (w l)) ∙ e

  -- the verdicts of two jobs one after the other
  pub verdicts-append : (j : J) (ts us : List (List ℕ)) → all_judged_by R j (ts ++ us) ≡ all_judged_by R j ts ++ all_judged_by R (foldl (stored_by R) j ts) us
  unfolding all_judged
  verdicts-append j [] us = refl
  verdicts-append j (t ∷ ts) us = ap (◌∷◌ (judged_by R j t)) (verdicts-append (stored_by R j t) ts us)

  -- behind the first transaction a job is well cut
  well_cut_tail : {t : List ℕ} {ts : List (List ℕ)} → WellCut R (t ∷ ts) → WellCut R ts
  well_cut_tail (cut-next p c) = c

  -- the first transaction is cut into its pieces
  well_cut_head : {t : List ℕ} {ts : List (List ℕ)} → WellCut R (t ∷ ts) → Pieces t (R.cut t).first (R.cut t).more
  well_cut_head (cut-next p c) = p

  -- a failure leaves the journal as it is
  failure-keeps : (L : Limits) (at : ℕ → CentralPhase) (f : ℕ) (j : J) → (failure R L at f j).journal ≡ j
  unfolding failure
  failure-keeps L at f j = choice (λ (r : Response J). r.journal ≡ j) (ltb f L.C) (λ e. refl) (λ e. refl)

  -- so does the close
  bye-keeps : (L : Limits) (h : Effect) (s : CentralPhase) (j : J) → (hears R L s j (arrives h bye)).journal ≡ j
  unfolding hears
  bye-keeps L lost s j = refl
  bye-keeps L whole idle j = refl
  bye-keeps L whole (logon f) j = failure-keeps L logon f j
  bye-keeps L whole (blocks f p) j = refl
  bye-keeps L whole closed j = refl
  bye-keeps L garbled idle j = refl
  bye-keeps L garbled (logon f) j = failure-keeps L logon f j
  bye-keeps L garbled (blocks f p) j = failure-keeps L (λ n. blocks n p) f j
  bye-keeps L garbled closed j = refl

  module _ (j : J) (t : List ℕ) where
    -- an admitted transaction is accepted
    verdict_accepted : admits j t ≡ true → judged_by R j t ≡ Accepted
    unfolding judged
    verdict_accepted e = rw e

    -- any other is rejected
    verdict_rejected : admits j t ≡ false → judged_by R j t ≡ Rejected
    unfolding judged
    verdict_rejected e = rw e

    -- an admitted transaction is put
    after-accepted : admits j t ≡ true → stored_by R j t ≡ R.put j t
    unfolding stored
    after-accepted e = rw e

    -- any other changes nothing
    after-rejected : admits j t ≡ false → stored_by R j t ≡ j
    unfolding stored
    after-rejected e = rw e

  module _ (job : List (List ℕ)) (j₀ : J) where
    -- the verdicts told and the journal j are those of the clean run, up to where `left` is left
    pub record Reached (left : List (List ℕ)) (told : List Verdict) (j : J) : Type 0 where
      pub done : List (List ℕ)
      pub job_is : job ≡ done ++ left
      pub told_is : told ≡ all_judged_by R j₀ done
      pub journal-is : j ≡ foldl (stored_by R) j₀ done
      pub known : (done ≡ []) ⊎ (match ≡ true)
      pub well_cut : WellCut R left

    -- the start of the job is reached
    pub reached-start : WellCut R job → Reached job [] j₀
    unfolding all_judged
    reached-start c = record { done = []; job_is = refl; told_is = refl; journal-is = refl; known = inl refl; well_cut = c }

    -- one transaction further
    reached-next : {t : List ℕ} {ts : List (List ℕ)} {told : List Verdict} {j : J} → match ≡ true → Reached (t ∷ ts) told j →
        Reached ts (told ++ judged_by R j t ∷ []) (stored_by R j t)
    unfolding all_judged
    reached-next {t} {ts} {told} {j} m r =
        record {
          done = r.done ++ t ∷ [];
          job_is = r.job_is ∙ sym (append_snoc r.done t ts);
          told_is = rw (verdicts-append, ← r.journal-is, r.told_is);
          journal-is = rw (foldl-append, r.journal-is);
          known = inr m;
          well_cut = well_cut_tail r.well_cut;
        }

    module _ (Calm : Type 0) where
      -- how a run may end: with nothing under way, or in a transaction that it leaves undecided
      pub data Ended : List (List ℕ) → List Verdict → J → Type 0 where
        quit : {left : List (List ℕ)} {told : List Verdict} {j : J} → Reached left told j → (Calm → match ≡ true → left ≡ []) → Ended left told j
        broke : {t : List ℕ} {left : List (List ℕ)} {told : List Verdict} {v : Verdict} {j j' : J} → match ≡ true → Reached (t ∷ left) told j →
            Undecided v → (j' ≡ j) ⊎ ((j' ≡ stored_by R j t) × (v ≡ Unconfirmed)) → ¬ Calm → Ended left (told ++ v ∷ []) j'

      -- where the central may be while the device opens the call
      pub data Waiting : CentralPhase → Type 0 where
        at_idle : Waiting idle
        at-logon : {f : ℕ} → Waiting (logon f)
        at-closed : ¬ Calm → Waiting closed

      -- where the central may be while the device closes it
      pub data Leaving : CentralPhase → Type 0 where
        at-blocks : {f : ℕ} {p : List ℕ} → Leaving (blocks f p)
        at_any : {s : CentralPhase} → ¬ Calm → Leaving s

      -- the invariant: the device at a place, the central at the step that goes with it, and what is reached
      pub data Good : ModelEnds J → Type 0 where
        is-opening : {a : ℕ} {s : CentralPhase} → Waiting s → Good (model_ends (device (opening a) job []) s j₀)
        is_logging_on : {a f : ℕ} → Good (model_ends (device (loggingOn a) job []) (logon f) j₀)
        is-sending : {a f : ℕ} {t u : List ℕ} {ts : List (List ℕ)} {told : List Verdict} {b : Segment} {bs : List Segment} {p : List ℕ} {j : J} →
            match ≡ true → Reached (t ∷ ts) told j → Pieces u b bs → p ++ u ≡ t →
            Good (model_ends (device (sending b bs a) (t ∷ ts) told) (blocks f p) j)
        is_closing : {a : ℕ} {told : List Verdict} {s : CentralPhase} {j : J} → Leaving s → Reached [] told j → Good (model_ends (device (closing a) [] told) s j)
        is-stopped : {left : List (List ℕ)} {told : List Verdict} {s : CentralPhase} {j : J} → Ended left told j → Good (model_ends (device stopped left told) s j)

      -- fault_effect is allowed only where nothing calls for calm
      abbrev Allowed : Effect → Type 0
      Allowed whole = Unit {0}
      Allowed lost = ¬ Calm
      Allowed garbled = ¬ Calm

      -- without calm every fault_effect is allowed
      allowed : (h : Effect) → ¬ Calm → Allowed h
      allowed whole n = tt
      allowed lost n = n
      allowed garbled n = n

      -- damage is allowed only where nothing calls for calm
      abbrev pub Undamaged : List Effects → Type 0
      Undamaged [] = Unit {0}
      Undamaged (m ∷ ms) = ¬ Calm

      -- without calm every list of damage is allowed
      pub undamaged : (ms : List Effects) → ¬ Calm → Undamaged ms
      undamaged [] n = tt
      undamaged (m ∷ ms) n = n

      -- the device goes on with the first transaction left
      good-begin : {left : List (List ℕ)} {told : List Verdict} {j : J} {f : ℕ} → match ≡ true → Reached left told j →
          Good (model_ends (begin R left told) (blocks f []) j)
      unfolding begin
      good-begin {left = []} m r = is_closing at-blocks r
      good-begin {left = t ∷ ts} m r = is-sending m r (well_cut_head r.well_cut) refl

      module _ (laws : Laws R) (L : Limits) (start : Reached job [] j₀) where
        -- the model_ends after the device d got the reply r
        abbrev Then : Effect → Device → Response J → Type 0
        Then k d r = Good (answered R L k d r)

        -- an answer that is not y is not read as y
        not-read : (k : Effect) (x y : Answer) → x is y ≡ false → nothing is y ≡ false → returns k x is y ≡ false
        not-read whole x y e n = e
        not-read lost x y e n = n
        not-read garbled x y e n = n

        -- ── Opening ──

        -- an answer that is no ID request: the device opens once more, or stops
        reopens : (k : Effect) (a : ℕ) (s : CentralPhase) (x : Answer) → x is idRequest ≡ false → ¬ Calm → Waiting s →
            Then k (device (opening a) job []) (record { step = s; journal = j₀; answer = x })
        unfolding answered reads
        reopens k a s x e n w =
            let P : Device → Type 0 = λ d. Good (model_ends d s j₀) in
            choice P (returns k x is idRequest) (λ e'. absurd (false≢true (sym (not-read k x idRequest e refl) ∙ e')))
            (λ e'. choice P (ltb a 3) (λ e'. is-opening w) (λ e'. is-stopped (quit start (λ c. absurd (n c)))))

        -- an ID request
        opened : (k : Effect) → Allowed k → (a f : ℕ) → Then k (device (opening a) job []) (record { step = logon f; journal = j₀; answer = idRequest })
        unfolding answered reads
        opened whole n a f = is_logging_on
        opened lost n a f = reopens lost a (logon f) nothing refl n at-logon
        opened garbled n a f = reopens garbled a (logon f) nothing refl n at-logon

        -- the invariant is kept while the device opens
        good-opening : (h k : Effect) → Allowed h → Allowed k → (a : ℕ) (s : CentralPhase) → Waiting s →
            Then k (device (opening a) job []) (hears R L s j₀ (arrives h hello))
        unfolding hears failure
        good-opening whole k n m a s at_idle = opened k m a 0
        good-opening whole k n m a s (at-logon {f = f}) = opened k m a f
        good-opening whole k n m a s (at-closed c) = reopens k a closed nothing refl c (at-closed c)
        good-opening lost k n m a s w = reopens k a s nothing refl n w
        good-opening garbled k n m a s at_idle = reopens k a idle nothing refl n at_idle
        good-opening garbled k n m a s (at-logon {f = f}) =
            choice (Then k (device (opening a) job [])) (ltb f L.C)
            (λ e. reopens k a (logon (suc f)) nak refl n at-logon) (λ e. reopens k a closed hangUp refl n (at-closed n))
        good-opening garbled k n m a s (at-closed c) = reopens k a closed nothing refl c (at-closed c)

        -- ── Logging on ──

        -- the central hangs up, or does not answer
        gives_up : (k : Effect) (a : ℕ) (s : CentralPhase) (hung : Bool) → (Calm → match ≡ true → job ≡ []) →
            Then k (device (loggingOn a) job []) (record { step = s; journal = j₀; answer = if hung then hangUp else nothing })
        unfolding answered reads
        gives_up whole a s true q = is-stopped (quit start q)
        gives_up whole a s false q = is-stopped (quit start q)
        gives_up lost a s hung q = is-stopped (quit start q)
        gives_up garbled a s hung q = is-stopped (quit start q)

        -- NAK to a logon
        tries-again : (k : Effect) (a f : ℕ) → (Calm → match ≡ true → job ≡ []) →
            Then k (device (loggingOn a) job []) (record { step = logon f; journal = j₀; answer = nak })
        unfolding answered reads
        tries-again whole a f q =
            choice (λ d. Good (model_ends d (logon f) j₀)) (leb a L.D) (λ e. is_logging_on) (λ e. is-stopped (quit start q))
        tries-again lost a f q = is-stopped (quit start q)
        tries-again garbled a f q = is-stopped (quit start q)

        -- a failure at the logon
        logon-fails : (k : Effect) (a f : ℕ) → (Calm → match ≡ true → job ≡ []) → Then k (device (loggingOn a) job []) (failure R L logon f j₀)
        unfolding failure
        logon-fails k a f q =
            choice (Then k (device (loggingOn a) job [])) (ltb f L.C) (λ e. tries-again k a (suc f) q) (λ e. gives_up k a closed true q)

        -- an acceptance
        logged_on : (k : Effect) → Allowed k → (a : ℕ) → match ≡ true →
            Then k (device (loggingOn a) job []) (record { step = blocks 0 []; journal = j₀; answer = acceptance })
        unfolding answered reads
        logged_on whole n a e = good-begin e start
        logged_on lost n a e = is-stopped (quit start (λ c. absurd (n c)))
        logged_on garbled n a e = is-stopped (quit start (λ c. absurd (n c)))

        -- the invariant is kept while the device logs on
        good_logging_on : (h k : Effect) → Allowed h → Allowed k → (a f : ℕ) →
            Then k (device (loggingOn a) job []) (hears R L (logon f) j₀ (arrives h login))
        unfolding hears
        good_logging_on whole k n m a f =
            choice (Then k (device (loggingOn a) job [])) match (logged_on k m a) (λ e. logon-fails k a f (λ c e'. absurd (false≢true (sym e ∙ e'))))
        good_logging_on lost k n m a f = gives_up k a (logon f) false (λ c. absurd (n c))
        good_logging_on garbled k n m a f = logon-fails k a f (λ c. absurd (n c))

        -- ── Sending ──

        module _ (match_is : match ≡ true) {t : List ℕ} {ts : List (List ℕ)} {told : List Verdict} {j : J} (r : Reached (t ∷ ts) told j) where
          -- the transaction is accepted
          accepted-next : admits j t ≡ true → Reached ts (told ++ Accepted ∷ []) (R.put j t)
          accepted-next e = rw (verdict_accepted j t e, after-accepted j t e) at (reached-next match_is r)

          -- the transaction is rejected
          rejected-next : admits j t ≡ false → Reached ts (told ++ Rejected ∷ []) j
          rejected-next e = rw (verdict_rejected j t e, after-rejected j t e) at (reached-next match_is r)

          -- the device stops in the transaction, and the journal is as it was
          breaks : (v : Verdict) {s : CentralPhase} → Undecided v → ¬ Calm → Good (model_ends (device stopped ts (told ++ v ∷ [])) s j)
          breaks v e n = is-stopped (broke match_is r e (inl refl) n)

          -- an answer that does not arrive whole is not read: the device stops in the transaction
          unless_lost : (k : Effect) (b : Segment) (bs : List Segment) (a : ℕ) (x : Response J) → Allowed k →
              (¬ Calm → Good (model_ends (device stopped ts (told ++ Unconfirmed ∷ [])) x.step x.journal)) →
              Then whole (device (sending b bs a) (t ∷ ts) told) x → Then k (device (sending b bs a) (t ∷ ts) told) x
          unfolding answered reads
          unless_lost whole b bs a x n u g = g
          unless_lost lost b bs a x n u g = u n
          unless_lost garbled b bs a x n u g = u n

          -- ACK to the last block
          accepts : (k : Effect) → Allowed k → (b : Segment) (a : ℕ) → admits j t ≡ true →
              Then k (device (sending b [] a) (t ∷ ts) told) (record { step = blocks 0 []; journal = R.put j t; answer = ack })
          unfolding answered reads acked
          accepts k n b a e =
              unless_lost k b [] a _ n (λ m. is-stopped (broke match_is r (inl refl) (inr (sym (after-accepted j t e), refl)) m)) (good-begin match_is (accepted-next e))

          -- RS
          rejects : (k : Effect) → Allowed k → (b : Segment) (bs : List Segment) (a : ℕ) → admits j t ≡ false →
              Then k (device (sending b bs a) (t ∷ ts) told) (record { step = blocks 0 []; journal = j; answer = rs })
          unfolding answered reads
          rejects k n b bs a e = unless_lost k b bs a _ n (breaks Unconfirmed (inl refl)) (good-begin match_is (rejected-next e))

          -- ACK to a block that is not the last
          goes_on_lem : (k : Effect) → Allowed k → {u : List ℕ} (b c : Segment) (bs : List Segment) (a : ℕ) (p : List ℕ) → Pieces u c bs → p ++ u ≡ t →
              Then k (device (sending b (c ∷ bs) a) (t ∷ ts) told) (record { step = blocks 0 p; journal = j; answer = ack })
          unfolding answered reads acked
          goes_on_lem k n b c bs a p x e = unless_lost k b (c ∷ bs) a _ n (breaks Unconfirmed (inl refl)) (is-sending match_is r x e)

          -- no answer
          hears-nothing : (k : Effect) → ¬ Calm → (b : Segment) (bs : List Segment) (a : ℕ) (s : CentralPhase) →
              Then k (device (sending b bs a) (t ∷ ts) told) (record { step = s; journal = j; answer = nothing })
          unfolding answered reads
          hears-nothing k n b bs a s = unless_lost k b bs a _ (allowed k n) (breaks Unconfirmed (inl refl)) (breaks Unconfirmed (inl refl) n)

          -- the central hangs up
          hears_hangup : (k : Effect) → ¬ Calm → (b : Segment) (bs : List Segment) (a : ℕ) (s : CentralPhase) →
              Then k (device (sending b bs a) (t ∷ ts) told) (record { step = s; journal = j; answer = hangUp })
          unfolding answered reads
          hears_hangup k n b bs a s = unless_lost k b bs a _ (allowed k n) (breaks Unconfirmed (inl refl)) (breaks Deferred (inr (inl refl)) n)

          -- NAK: the central took nothing, so the block may be sent again
          hears-nak : (k : Effect) → ¬ Calm → {u : List ℕ} (b : Segment) (bs : List Segment) (a f : ℕ) (p : List ℕ) → Pieces u b bs → p ++ u ≡ t →
              Then k (device (sending b bs a) (t ∷ ts) told) (record { step = blocks f p; journal = j; answer = nak })
          unfolding answered reads
          hears-nak k n b bs a f p x e =
              unless_lost k b bs a _ (allowed k n) (breaks Unconfirmed (inl refl))
              (choice (λ d. Good (model_ends d (blocks f p) j)) (leb a L.D) (λ e'. is-sending match_is r x e) (λ e'. breaks Deferred (inr (inl refl)) n))

          -- a block that arrives whole
          block-taken : (k : Effect) → Allowed k → {u : List ℕ} (b : Segment) (bs : List Segment) (a : ℕ) (p : List ℕ) → Pieces u b bs → p ++ u ≡ t →
              Then k (device (sending b bs a) (t ∷ ts) told) (takes R j (p ++ b.info) b)
          unfolding takes
          block-taken k n b bs a p (final l) e =
              let P = Then k (device (sending b [] a) (t ∷ ts) told) in
              rw e
              (choice P (refused R j t b) (λ x. rejects k n b [] a (refused-not j t t b (λ y. refl) (laws.admits-fits j t) x))
              (λ x. choice P (last b) (λ y. accepts k n b a (why_passed (fits t) (last b) (admits j t) l x)) (λ y. absurd (false≢true (sym y ∙ l)))))
          block-taken k n b bs a p (piece {t = u} {c = c} {bs = bs'} l x) e =
              let P = Then k (device (sending b (c ∷ bs') a) (t ∷ ts) told) in
              choice P (refused R j (p ++ b.info) b)
              (λ y. rejects k n b (c ∷ bs') a (refused-not j t (p ++ b.info) b (λ z. absurd (false≢true (sym l ∙ z)))
              (λ z. laws.fits_prefix (p ++ b.info) u (rw (append_assoc, e) (laws.admits-fits j t z))) y))
              (λ y. choice P (last b) (λ z. absurd (false≢true (sym l ∙ z))) (λ z. goes_on_lem k n b c bs' a (p ++ b.info) x (append_assoc p b.info u ∙ e)))

          -- the invariant is kept while the device sends
          good-sending : (h k : Effect) → Allowed h → Allowed k → {u : List ℕ} (b : Segment) (bs : List Segment) (a f : ℕ) (p : List ℕ) → Pieces u b bs → p ++ u ≡ t →
              Then k (device (sending b bs a) (t ∷ ts) told) (hears R L (blocks f p) j (arrives h (carries b)))
          unfolding hears failure
          good-sending whole k n m b bs a f p x e = block-taken k m b bs a p x e
          good-sending lost k n m b bs a f p x e = hears-nothing k n b bs a (blocks f p)
          good-sending garbled k n m b bs a f p x e =
              choice (Then k (device (sending b bs a) (t ∷ ts) told)) (ltb f L.C)
              (λ e'. hears-nak k n b bs a (suc f) p x e) (λ e'. hears_hangup k n b bs a closed)

        -- ── Closing ──

        -- a central that may be anywhere
        closing_anywhere : (h k : Effect) (a : ℕ) (told : List Verdict) (s : CentralPhase) (j : J) → ¬ Calm → Reached [] told j →
            Then k (device (closing a) [] told) (hears R L s j (arrives h bye))
        unfolding answered reads
        closing_anywhere h k a told s j n r =
            let x = hears R L s j (arrives h bye) in
            rw (bye-keeps L h s j)
            (choice (λ (d : Device). Good (model_ends d x.step j)) (returns k x.answer is nak && leb a L.D)
            (λ e. is_closing (at_any n) r) (λ e. is-stopped (quit r (λ c e. refl))))

        -- the invariant is kept while the device closes
        good_closing : (h k : Effect) → Allowed h → Allowed k → (a : ℕ) (told : List Verdict) (s : CentralPhase) (j : J) → Leaving s → Reached [] told j →
            Then k (device (closing a) [] told) (hears R L s j (arrives h bye))
        unfolding answered reads hears
        good_closing h k n m a told s j (at_any q) r = closing_anywhere h k a told s j q r
        good_closing whole whole n m a told s j at-blocks r = is-stopped (quit r (λ c e. refl))
        good_closing whole lost n m a told s j at-blocks r = is-stopped (quit r (λ c e. refl))
        good_closing whole garbled n m a told s j at-blocks r = is-stopped (quit r (λ c e. refl))
        good_closing lost k n m a told s j at-blocks r = closing_anywhere lost k a told s j n r
        good_closing garbled k n m a told s j at-blocks r = closing_anywhere garbled k a told s j n r

        -- ── Every place ──

        -- every transmission keeps the invariant
        pub good-exchange : (h k : Effect) → Allowed h → Allowed k → {w : ModelEnds J} → Good w → Good (exchange R L (effects h k) w)
        unfolding exchange sent
        good-exchange h k n m (is-opening {a = a} {s = s} w) = good-opening h k n m a s w
        good-exchange h k n m (is_logging_on {a = a} {f = f}) = good_logging_on h k n m a f
        good-exchange h k n m (is-sending {a = a} {f = f} {b = b} {bs = bs} {p = p} i r x e) = good-sending i r h k n m b bs a f p x e
        good-exchange h k n m (is_closing {a = a} {told = told} {s = s} {j = j} w r) = good_closing h k n m a told s j w r
        good-exchange h k n m (is-stopped e) = is-stopped e

        -- so does every run
        good-run : (n : ℕ) (ms : List Effects) → Undamaged ms → {w : ModelEnds J} → Good w → Good (run R L n ms w)
        unfolding run
        good-run zero ms q g = g
        good-run (suc n) [] q g = good-run n [] q (good-exchange whole whole tt tt g)
        good-run (suc n) (effects h k ∷ ms) q g = good-run n ms (undamaged ms q) (good-exchange h k (allowed h q) (allowed k q) g)

      -- a model_ends in which a run has ended so
      abbrev pub EndOf : ModelEnds J → Type 0
      EndOf (model_ends (device p left told) s j) = Ended left told j

      -- where the device has stopped, the run has ended
      good-end : {w : ModelEnds J} → Good w → halts_at (device_of w) ≡ true → EndOf w
      good-end (is-opening w) e = absurd (false≢true e)
      good-end is_logging_on e = absurd (false≢true e)
      good-end (is-sending i r x q) e = absurd (false≢true e)
      good-end (is_closing w r) e = absurd (false≢true e)
      good-end (is-stopped x) e = x

      -- it holds of every run
      played-good : Laws R → (L : Limits) → WellCut R job → (n : ℕ) (ms : List Effects) → Undamaged ms → Good (played R L n job j₀ ms)
      unfolding played
      played-good laws L c n ms q = good-run laws L (reached-start c) n ms q (is-opening at_idle)

      -- what a run comes to once the device has stopped
      pub played-end : Laws R → (L : Limits) → WellCut R job → (n : ℕ) (ms : List Effects) → Undamaged ms → halts_at (device_of (played R L n job j₀ ms)) ≡ true → EndOf (played R L n job j₀ ms)
      played-end laws L c n ms q = good-end (played-good laws L c n ms q)
