-- The run's loop: what holds between two transmissions, that each keeps it, and that it has come to the end once the device puts out no string.
use mathlib.Core.Bool.{Bool, true, false≢true, and-eq-true_iff}
use mathlib.Core.List.{List, [], ◌∷◌, ◌++◌, map, reverse, tail}
use mathlib.Core.Logic.{◌⊎◌, inl, inr}
use mathlib.Core.Path.{◌≡◌, refl, sym, ap, ◌∙◌}
use Prim.Native.Nat.{ℕ, zero, suc, ◌+◌, ◌*◌, ◌≤◌, ◌<◌}
use native.Mathlib.Nat.{zero-add, add-zero, mul-le-mul_left}
use native.Mathlib.Numerals.{add-one}
use native.Mathlib.Omega.{arith}
use lib.Dec.{eqb, ltb}
use lib.ListN.{length, drop, get_or, replicate, length-map}
use Rattle.std.proofs.lemmas.List.{length-reverse}
use lib.Seq.{get_or-drop, length-take-le}
use Rattle.line.proofs.OutcomeLaws.{choice, map-done}
use Rattle.line.specs.Answer.{done}
use Rattle.line.specs.Character.{byte}
use Rattle.line.specs.Parity.{with_parity}
use Rattle.line.specs.Test.{all}
use Rattle.line.specs.Transaction.{legal}
use Rattle.block.specs.Block.{Segment}
use Rattle.block.specs.Segments.{continues, segment_block}
use Rattle.block.proofs.FrameLaws.{block-length}
use Rattle.journal.proofs.EncodingLaws.{decode-legal, newest_parts}
use Rattle.journal.proofs.StorageLaws.{put-size, read-size, stored-own, stored-over}
use Rattle.journal.specs.Encoding.{all_legal}
use Rattle.journal.specs.Storage.{size_of, stored_in}
use Rattle.journal.specs.Walk.{newest_first, decode}
use Rattle.central.proofs.HearingLaws.{heard-right}
use Rattle.central.proofs.ReactionLaws.{every}
use Rattle.central.specs.Hearing.{heard}
use Rattle.central.specs.Reaction.{Rules, Central, Reaction, meets, takes}
use Rattle.central.specs.Step.{rules_of}
use Rattle.central.specs.declared.state.Settings as CentralSettings
use Rattle.device.proofs.BoundLaws.{transmissions_bound}
use Rattle.device.proofs.SegmentsLaws.{segments_few}
use Rattle.device.proofs.SettlingLaws.{numbers-settled}
use Rattle.device.proofs.StepLaws.{settings_parts}
use Rattle.device.specs.Bound.{job_blocks, transmissions_left}
use Rattle.device.specs.Reaction.{segment_in, bytes_of_string, verdict_number}
use Rattle.device.specs.Settling.{is_stopped, settled_numbers}
use Rattle.device.specs.declared.state.Settings as DeviceSettings
use Rattle.device.specs.declared.state.Step.{Step}
use Rattle.device.specs.declared.state.Step.TheVariants.{Opening, Logon, Sending, Closing, Stopped}
use Rattle.device.specs.declared.state.Verdict.TheVariants.{Unsent}
use Rattle.demand.proofs.FaultLaws.{fault-step}
use Rattle.demand.proofs.RunLaws.{after_rests}
use Rattle.demand.proofs.Stops.{exchange-falls}
use Rattle.demand.specs.Faults.{damages, damages_from, faulted}
use Rattle.demand.specs.Final.{standing_in}
use Rattle.demand.specs.Run.{Transit, hit, Inputs, Ends, start, string, counted, responds, exchange, after, most_transmissions, final}
use Rattle.call.specs.Call.{Transactions, Setup}
use Rattle.call.specs.Driver.{Sound, job_of, inputs_from}
use Rattle.call.specs.Inner.{Exchanged, Exchanges, Plays, Stands, Underway}
use Rattle.call.specs.declared.exchange.Saved.{Saved}
use Rattle.call.proofs.DriverLaws.{sound-ranged}
use Rattle.call.proofs.ExchangeLaws.{goes_on_lem}

-- ── The journal grows ──

-- a central whose journal is a list of transactions
module _ (settings : CentralSettings.Settings) (pagers : List ℕ) (c : Central Transactions) where
  -- its rules
  abbrev rules : Rules Transactions
  rules = rules_of settings pagers

  -- a reaction that leaves no shorter journal
  abbrev Grows : Reaction Transactions → Type 0
  Grows x = size_of c.journal ≤ size_of x.next.journal

  -- a transaction is stored behind the others
  takes_grows : (t : List ℕ) (goes_on : Bool) → Grows (takes rules c t goes_on)
  takes_grows t goes_on =
      choice Grows (ltb settings.longest (length t)) (λ _. omega arith) λ _.
      choice Grows goes_on (λ _. omega arith) λ _.
      choice Grows (meets rules c.journal t) (λ _. omega (arith, put-size c.journal t)) (λ _. omega arith)

-- an exchange leaves no shorter journal
exchange_grows : (s : Setup) (first : Transactions) (d : Transit) (e : Ends Transactions) →
    size_of e.central.journal ≤ size_of (exchange (inputs_from s first) d e).central.journal
unfolding exchange responds
exchange_grows s first d e =
    let c = e.central in
    let bytes = hit d.out (string (inputs_from s first) e) in
    every (rules s.central s.pagers c) c (Grows s.central s.pagers c) (λ _. omega arith) (λ _ _. omega arith) c.stage (heard c.stage bytes)
    (λ _. choice (Grows s.central s.pagers c) (eqb c.failures s.central.retries) (λ _. omega arith) (λ _. omega arith))
    (λ g _. takes_grows s.central s.pagers c (c.pending ++ g.info) (continues g.ending))
    (heard-right c.stage bytes)

-- ── The device's strings ──

-- a device that puts out no string has stopped
silent-stopped : (settings : DeviceSettings.Settings) (job : Transactions) (step : Step) → length (bytes_of_string settings job step) ≡ 0 → step ≡ Stopped
silent-stopped settings job (Opening p) h = absurd (omega arith)
silent-stopped settings job (Logon p) h = absurd (omega arith)
silent-stopped settings job (Sending p) h =
    let g : Segment = segment_in settings job p in
    absurd (omega (arith, length-map (segment_block g) with_parity, block-length g.info g.ending))
silent-stopped settings job (Closing p) h = absurd (omega arith)
silent-stopped settings job Stopped h = refl

-- a string that is not empty counts as one
counts-one : (bytes : List ℕ) → 0 < length bytes → counted bytes ≡ 1
counts-one [] h = absurd (omega arith)
counts-one (b ∷ bs) h = refl

-- ── The bound ──

-- a legal transaction has at most 15 blocks
blocks-few : (settings : DeviceSettings.Settings) (ts : Transactions) → all_legal ts ≡ true → job_blocks settings ts ≤ 15 * length ts
unfolding job_blocks all_legal
blocks-few settings [] h = omega arith
blocks-few settings (t ∷ ts) h =
    let (l, rest) = (and-eq-true_iff (legal t) (all_legal ts)).0 h in
    omega (arith, blocks-few settings ts rest, segments_few settings t l)

-- a job that is read has at most 64 transactions
job-few : (b : List ℕ) (ts : Transactions) → decode b ≡ done ts → length ts ≤ 64
job-few b ts h =
    let (rs, newest, e) = map-done reverse (newest_first b) ts h in
    let (_, _, few, _, _) = newest_parts b rs newest in
    rw (← e, length-reverse) few

-- so a run takes few transmissions
pub sound-few : {s : Setup} (first : Transactions) → Sound s → most_transmissions (inputs_from s first) ≤ 10000
sound-few {s} first sound =
    let limit = (settings_parts s.device (sound-ranged sound).0).1 in
    let each = decode-legal s.job (job_of s) sound.read in
    omega (arith, mul-le-mul_left (s.device.retries + 1) (few (blocks-few s.device (job_of s) each) (job-few s.job (job_of s) sound.read)))
  where
    few : {b n : ℕ} → b ≤ 15 * n → n ≤ 64 → b + 2 ≤ 962
    few p q = omega arith

-- ── Between two transmissions ──

-- the list behind its first members, one further
drop-next : (xs : List ℕ) (n : ℕ) → tail (drop n xs) ≡ drop (suc n) xs
drop-next [] zero = refl
drop-next [] (suc n) = refl
drop-next (x ∷ xs) zero = refl
drop-next (x ∷ xs) (suc n) = drop-next xs n

-- after t transmissions of a run that started with this journal in this buffer: both ends as they stand, what is left of the run from them on,
-- and the buffer is the first one with their journal stored
pub record Going (s : Setup) (first : Transactions) (faults buffer₀ : List ℕ) (saved : Saved) (t : ℕ) (buffer pending memory verdicts : List ℕ) : Type 0 where
  pub ends : Ends Transactions
  pub stands : Stands s ends saved buffer pending memory verdicts
  pub counts : ends.transmissions ≡ t
  pub fuel : ℕ
  pub comes : let i = inputs_from s first in final i (faulted i faults) ≡ after i fuel (damages_from i (drop t faults) ends) ends
  pub left : transmissions_left s.device (job_of s) saved.device.step ≤ fuel
  pub bounded : t + fuel ≡ most_transmissions (inputs_from s first)
  pub stored : buffer ≡ stored_in (done ends.central.journal) buffer₀

-- a run that started with this journal
module _ (s : Setup) (first : Transactions) where
  -- its inputs
  abbrev i : Inputs Transactions
  i = inputs_from s first

  module _ {faults buffer₀ : List ℕ} {saved : Saved} where
    -- it begins
    pub going-begins : {pending memory verdicts : List ℕ} → Stands s (start i) saved buffer₀ pending memory verdicts → all byte buffer₀ ≡ true → Going s first faults buffer₀ saved 0 buffer₀ pending memory verdicts
    going-begins stands bytes =
        let h = stands.holds in
        record {
          ends = start i;
          stands = stands;
          counts = refl;
          fuel = most_transmissions i;
          comes = refl;
          left = rw h.step (transmissions_bound s.device (job_of s));
          bounded = zero-add (most_transmissions i);
          stored = sym (stored-own buffer₀ saved.central.journal first bytes h.read);
        }

    -- so a run is underway while the device has put out a string
    abbrev pub underway : {t : ℕ} {buffer pending memory verdicts : List ℕ} → Going s first faults buffer₀ saved t buffer pending memory verdicts → 0 < saved.count → Underway s saved buffer pending memory verdicts
    underway g sends = record { first = first; ends = g.ends; stands = g.stands; sends = sends }

    -- after t transmissions
    module _ {t : ℕ} {buffer pending memory verdicts : List ℕ} (g : Going s first faults buffer₀ saved t buffer pending memory verdicts) where
      -- the length of the device's string
      string-long : length (string i g.ends) ≡ saved.count
      string-long = sym (ap length g.stands.holds.put) ∙ length-take-le saved.count memory g.stands.inside

      -- the run has come to its end, and the verdicts have been settled
      pub going-ends : saved.count ≤ 0 → all byte buffer ≡ true → {verdicts' : List ℕ} → verdicts' ≡ settled_numbers saved.standing verdicts →
          Plays i (final i (faulted i faults)) (record { transmissions = t; journal = saved.central.journal }) buffer₀ buffer verdicts'
      going-ends none bytes settles =
          let h = g.stands.holds in
          let stopped = silent-stopped s.device (job_of s) g.ends.step (omega (arith, string-long)) in
          let over : final i (faulted i faults) ≡ g.ends = g.comes ∙ after_rests i g.fuel (damages_from i (drop t faults) g.ends) g.ends stopped in
          rw over (record {
            totals = rw (g.counts, read-size buffer saved.central.journal g.ends.central.journal bytes h.read);
            stored = g.stored;
            numbers = settles ∙ rw (g.stands.numbers, g.stands.said) (numbers-settled (standing_in i g.ends) g.ends.verdicts);
          })

      -- both ends after one more
      abbrev next : Ends Transactions
      next = exchange i (damages i (get_or faults t 0) g.ends) g.ends

      -- one transmission more
      module _ (some : 0 < saved.count) {fault : ℕ} (told : fault ≡ get_or faults t 0) {saved' : Saved} {buffer' pending' memory' verdicts' : List ℕ}
          (made : Exchanges s fault saved saved' buffer buffer' pending pending' memory memory' verdicts verdicts') where
        -- its fault is the next
        x : Exchanged s i (get_or faults t 0) g.ends saved' buffer buffer' pending' memory' verdicts'
        x = rw told at (made (underway g some))

        -- it leaves fewer to make
        pub going_less : transmissions_left s.device (job_of s) saved'.device.step < transmissions_left s.device (job_of s) saved.device.step
        going_less =
            let h = g.stands.holds in
            rw (x.stands.holds.step, h.step)
            (go (exchange-falls i (decode-legal s.job (job_of s) g.stands.sound.read) (damages i (get_or faults t 0) g.ends) g.ends (record { range = h.ranged; there = h.there })).1)
          where
            left : Ends Transactions → ℕ
            left e = transmissions_left s.device (job_of s) e.step

            go : (g.ends.step ≡ Stopped) ⊎ (left next < left g.ends) → left next < left g.ends
            go (inl stopped) = absurd (false≢true (sym (goes_on_lem (underway g some) fault) ∙ ap is_stopped stopped))
            go (inr falls) = falls

        -- and is counted
        next-counts : next.transmissions ≡ t + 1
        unfolding exchange
        next-counts = rw (g.counts, counts-one (string i g.ends) (omega (arith, string-long)))

        -- and goes on
        pub going_on : Going s first faults buffer₀ saved' (t + 1) buffer' pending' memory' verdicts'
        going_on = go g.fuel refl
          where
            go : (m : ℕ) → g.fuel ≡ m → Going s first faults buffer₀ saved' (t + 1) buffer' pending' memory' verdicts'
            go zero e = absurd (omega (arith, going_less, g.left))
            go (suc m) e =
                let here : get_or (drop t faults) 0 0 ≡ get_or faults t 0 = get_or-drop t faults 0 0 ∙ ap (λ n. get_or faults n 0) (add-zero t) in
                let there : tail (drop t faults) ≡ drop (t + 1) faults = drop-next faults t ∙ ap (λ n. drop n faults) (sym (add-one t)) in
                let from : List ℕ → Ends Transactions → Ends Transactions = λ fs e. after i m (damages_from i fs e) e in
                let now = g.ends in
                record {
                  ends = next;
                  stands = x.stands;
                  counts = next-counts;
                  fuel = m;
                  comes = g.comes ∙ ap (λ n. after i n (damages_from i (drop t faults) now) now) e ∙ fault-step i m (drop t faults) now
                      ∙ ap (λ f. from (tail (drop t faults)) (exchange i (damages i f now) now)) here ∙ ap (λ fs. from fs next) there;
                  left = omega (arith, going_less, g.left, e);
                  bounded = plus g.bounded e;
                  stored = x.stored ∙ ap (stored_in (done next.central.journal)) g.stored
                      ∙ stored-over buffer₀ now.central.journal next.central.journal (exchange_grows s first (damages i (get_or faults t 0) now) now);
                }
              where
                plus : {k n q : ℕ} → t + n ≡ q → n ≡ suc k → t + 1 + k ≡ q
                plus p q = omega arith

-- ── No verdicts yet ──

-- a verdict buffer filled with the number of unsent
pub unsent-filled : (n : ℕ) → replicate n (verdict_number Unsent) ≡ map verdict_number (replicate n Unsent)
unsent-filled zero = refl
unsent-filled (suc n) = ap (λ l. verdict_number Unsent ∷ l) (unsent-filled n)
