-- The tests of a call: which case of `tested` they leave, and what a call has once they are passed.
use mathlib.Core.Bool.{Bool, true, false, not, ◌&&◌, and-eq-true_iff}
use mathlib.Core.List.{List}
use mathlib.Core.Path.{◌≡◌, sym, ap, ◌∙◌}
use Prim.Native.Nat.{ℕ}
use borrow.Author.Tests.{not-false}
use lib.ListN.{length}
use Rattle.line.proofs.OutcomeLaws.{map-done, then_done, map-refused, passed}
use Rattle.line.specs.Answer.{Outcome, done, refused, map_done, output}
use Rattle.line.specs.Test.{all}
use Rattle.journal.specs.Storage.{decode_in, is_buffer}
use Rattle.journal.specs.Walk.{decode}
use Rattle.device.specs.Step.{cuts_all}
use Rattle.call.specs.Call.{Setup, ends_in_range, fault, inputs_of, tested}
use Rattle.call.specs.Driver.{job_of, Sound}
use Rattle.call.specs.Inner.{inputs_in}

-- a call
module _ (s : Setup) (buffer : List ℕ) (n : ℕ) (faults : List ℕ) where
  -- the number of transactions, where the tests are passed
  abbrev pub count : Outcome ℕ
  count = map_done (λ i. length i.job) (tested s buffer n faults)

  -- settings and pager list are in range
  abbrev ranged : Bool
  ranged = ends_in_range s.device s.central s.pagers

  -- they are not
  pub ends-refused : ranged ≡ false → refused 9 ≡ count
  unfolding tested
  ends-refused e = rw e

  module _ (ends : ranged ≡ true) where
    -- a fault is not in range
    pub faults_refused : all fault faults ≡ false → refused 9 ≡ count
    unfolding tested
    faults_refused e = rw (ends, e)

    module _ (right : all fault faults ≡ true) where
      -- the journal's buffer has the wrong size
      pub size-refused : is_buffer buffer ≡ false → refused 1 ≡ count
      unfolding tested
      size-refused e = rw (ends, right, e)

      module _ (size : is_buffer buffer ≡ true) where
        -- the job is not well formed
        pub job-refused : (k : ℕ) → map_done length (decode s.job) ≡ refused k → refused k ≡ count
        unfolding tested
        job-refused k e = rw (ends, right, size, map-refused length (decode s.job) k e)

        -- the job has so many transactions
        module _ (m : ℕ) (counts : map_done length (decode s.job) ≡ done m) where
          -- the journal is not well formed
          pub journal-refused : (k : ℕ) → map_done length (decode_in buffer n) ≡ refused k → refused k ≡ count
          unfolding tested
          journal-refused k e =
              let (ts, read, _) = map-done length (decode s.job) m counts in
              rw (ends, right, size, read, map-refused length (decode_in buffer n) k e)

  -- settings, faults and buffer pass, the job has m transactions, and the journal is well formed
  pub record Read (m : ℕ) : Type 0 where
    pub ends : ranged ≡ true
    pub right : all fault faults ≡ true
    pub size : is_buffer buffer ≡ true
    pub counts : map_done length (decode s.job) ≡ done m
    pub many : ℕ
    pub held : map_done length (decode_in buffer n) ≡ done many

  module _ {m : ℕ} (r : Read m) where
    -- a field of the job is too long for the device's way
    pub uncut_refused : cuts_all s.device.way (job_of s) ≡ false → refused 2 ≡ count
    unfolding tested
    uncut_refused h =
        let (ts, read, _) = map-done length (decode s.job) m r.counts in
        let (js, stored, _) = map-done length (decode_in buffer n) r.many r.held in
        let uncut = rw read at h in
        rw (r.ends, r.right, r.size, read, stored, uncut)

    -- none is
    pub all-passed : cuts_all s.device.way (job_of s) ≡ true → done m ≡ count
    unfolding tested
    all-passed h =
        let (ts, read, long) = map-done length (decode s.job) m r.counts in
        let (js, stored, _) = map-done length (decode_in buffer n) r.many r.held in
        let cut = rw read at h in
        rw (r.ends, r.right, r.size, read, stored, cut) (ap done (sym long))

  -- what a call has that passed the tests
  pub record Passed (m : ℕ) : Type 0 where
    pub sound : Sound s
    pub read : decode_in buffer n ≡ done (output (decode_in buffer n))
    pub made : tested s buffer n faults ≡ done (inputs_in s buffer n)
    pub counts : m ≡ length (job_of s)

  -- it passed them where the transactions are counted
  pub tested-passed : (m : ℕ) → count ≡ done m → Passed m
  unfolding tested
  tested-passed m counted =
      let (i, made, long) = map-done (λ i. length i.job) (tested s buffer n faults) m counted in
      let (tests, r) = passed (not (ranged && all fault faults)) 9 _ i made in
      let (_, r₂) = passed (not (is_buffer buffer)) 1 _ i r in
      let (ts, read, r₃) = then_done (decode s.job) _ i r₂ in
      let (js, held, r₄) = then_done (decode_in buffer n) _ i r₃ in
      let (cut, r₅) = passed (not (cuts_all s.device.way ts)) 2 _ i r₄ in
      let same : inputs_of s ts js ≡ i = cc in
      let job : job_of s ≡ ts = ap output read in
      let journal : output (decode_in buffer n) ≡ js = ap output held in
      let inputs : i ≡ inputs_in s buffer n = sym same ∙ rw (job, journal) in
      record {
        sound = record { ranged = ((and-eq-true_iff ranged (all fault faults)).0 (not-false _ tests)).0; read = rw job read; cut = rw job (not-false _ cut) };
        read = rw journal held;
        made = rw (← inputs) made;
        counts = rw (← long, inputs);
      }
