-- Demand 3, one claim about every list of damage and the run it makes.
use Rattle.std.specs.Prelude.{Bool, true, false, ◌⊎◌, ◌≡◌, None, ℕ, zero, suc, ◌+◌, ◌<◌, ◌≤◌, length, take, get_or, if◌then◌else◌}
use mathlib.Core.List.{List, [], ◌∷◌, tail}
use Rattle.line.specs.Password.{password_in_range}
use Rattle.journal.specs.Encoding.{all_legal}
use Rattle.central.specs.Hearing.{silence, noise, heard}
use Rattle.central.specs.Reaction.{Rules}
use Rattle.central.specs.declared.state.Stage.{Stage}
use Rattle.device.specs.Reaction.{with_retries}
use Rattle.device.specs.declared.state.Step.TheVariants.{Stopped}
use Rattle.device.specs.declared.state.Verdict.{Verdict}
use Rattle.device.specs.declared.state.Verdict.TheVariants.{Accepted, Rejected, Unconfirmed, Deferred, Unsent, InDoubt}
use Rattle.reply.specs.Reading.{reply_read}
use Rattle.demand.specs.Clean.{clean_verdicts, clean_journal}
use Rattle.demand.specs.Faults.{faulted}
use Rattle.demand.specs.Run.{Damage, whole, nothing, other, Transit, Damages, next, Inputs, Ends, start, string, answer, exchange, most_transmissions, final, run}

-- ── What a run has tested ──

-- inputs that a run does not refuse, as far as the claim needs it: the job's transactions are legal, and the device's
-- password is one
pub record Legal {J : Type 0} (i : Inputs J) : Type 0 where
  pub job : all_legal i.job ≡ true
  pub password : password_in_range i.device.password ≡ true

-- ── Damage that is allowed ──

-- other bytes in the place of a string that is not empty have a property (R-10.5)
abbrev pub Replaced : (List ℕ → Type 0) → Damage → List ℕ → Type 0
Replaced P d [] = Unit {0}
Replaced P whole (b ∷ bs) = Unit {0}
Replaced P nothing (b ∷ bs) = Unit {0}
Replaced P (other bytes) (b ∷ bs) = P bytes

-- the central's present stage recognizes nothing in these bytes (R-10.5)
abbrev pub Unheard : Stage → List ℕ → Type 0
Unheard stage bytes = (heard stage bytes ≡ noise) ⊎ (heard stage bytes ≡ silence)

-- these bytes are no reply: neither does the device (R-10.5)
abbrev pub NoReply : List ℕ → Type 0
NoReply bytes = reply_read bytes ≡ None

-- in one transmission, the end that gets other bytes recognizes nothing in them (R-10.5)
pub record FairAt {J : Type 0} (i : Inputs J) (d : Transit) (e : Ends J) : Type 0 where
  pub unheard : Replaced (Unheard e.central.stage) d.out (string i e)
  pub no_reply : Replaced NoReply d.back (answer i d.out e)

-- the same in so many transmissions (R-10.5)
unfoldable pub FairFor : {J : Type 0} → Inputs J → ℕ → Damages → Ends J → Type 0
FairFor i zero ds e = Unit {0}
FairFor i (suc n) ds e = FairAt i (next ds) e × FairFor i n (tail ds) (exchange i (next ds) e)

-- along the run that the list of damage makes, no end recognizes anything in other bytes (R-10.5)
abbrev pub Fair : {J : Type 0} → Inputs J → Damages → Type 0
Fair i ds = FairFor i (most_transmissions i) ds (start i)

-- ── What is claimed ──

-- accepted or rejected (R-10.8)
abbrev pub decides : Verdict → Bool
decides Accepted = true
decides Rejected = true
decides Unconfirmed = false
decides Deferred = false
decides Unsent = false
decides InDoubt = false

-- how many of the verdicts are accepted or rejected (R-10.8)
unfoldable pub decided : List Verdict → ℕ
decided [] = 0
decided (v ∷ vs) = if decides v then suc (decided vs) else decided vs

-- the verdict of a transaction; past the end of the job it is unsent (R-10.8)
abbrev pub verdict_at : List Verdict → ℕ → Verdict
verdict_at vs n = get_or vs n Unsent

-- unconfirmed, deferred or unsent (R-10.8)
abbrev pub Undecided : Verdict → Type 0
Undecided v = (v ≡ Unconfirmed) ⊎ ((v ≡ Deferred) ⊎ (v ≡ Unsent))

-- the same rules with another retry limit
abbrev pub rules_with : {J : Type 0} → Rules J → ℕ → Rules J
rules_with r c = record { password = r.password; longest = r.longest; retries = c; pagers = r.pagers; storage = r.storage }

-- the same inputs with other retry limits, D and C (R-10.8)
abbrev pub limited : {J : Type 0} → Inputs J → ℕ → ℕ → Inputs J
limited i d c = record { job = i.job; device = with_retries i.device d; rules = rules_with i.rules c; journal = i.journal }

-- limits that are not below those of the inputs, at one end or both (R-10.8)
pub record Higher {J : Type 0} (i : Inputs J) (d c : ℕ) : Type 0 where
  pub device : i.device.retries ≤ d
  pub central : i.rules.retries ≤ c

-- what the verdicts vs decide is the same in vs': whatever is accepted or rejected gets the same verdict again (R-10.8)
abbrev pub Kept : List Verdict → List Verdict → Type 0
Kept vs vs' = (n : ℕ) → decides (verdict_at vs n) ≡ true → verdict_at vs' n ≡ verdict_at vs n

-- the same inputs with the job's first k transactions (R-10.7)
abbrev pub shortened : {J : Type 0} → Inputs J → ℕ → Inputs J
shortened i k = record { job = take k i.job; device = i.device; rules = i.rules; journal = i.journal }

-- the verdicts vs and the journal j that a run leaves agree with the clean verdicts and the clean journals after each number
-- of transactions, as far as they go: up to k, the number of verdicts that are accepted or rejected (R-10.8)
pub record Agrees {J : Type 0} (clean : List Verdict) (journals : ℕ → J) (vs : List Verdict) (j : J) (k : ℕ) : Type 0 where
  -- the first k verdicts are the first k of the clean run
  pub first-clean : take k vs ≡ take k clean
  -- the next, if there is one, is unconfirmed, deferred or unsent
  pub next-undecided : Undecided (verdict_at vs k)
  -- and all after it are unsent
  pub later_unsent : (n : ℕ) → k < n → verdict_at vs n ≡ Unsent
  -- the journal is the clean one after k, or the clean one after k + 1, and this only where that next verdict is unconfirmed
  pub journal-clean : (j ≡ journals k) ⊎ ((j ≡ journals (k + 1)) × (verdict_at vs k ≡ Unconfirmed))

-- what is claimed of the run over a list of damage (R-10.8)
pub record Claim {J : Type 0} (i : Inputs J) (ds : Damages) : Type 0 where
  -- its verdicts and its journal are the clean run's as far as they go
  pub agrees : let r = run i ds in Agrees (clean_verdicts i) (clean_journal i) r.verdicts r.journal (decided r.verdicts)
  -- with higher limits and the same damage, fair there too, what was accepted or rejected gets the same verdict again
  pub kept : (d c : ℕ) → Higher i d c → Fair (limited i d c) ds → Kept (run i ds).verdicts (run (limited i d c) ds).verdicts
  -- there is a verdict for each transaction
  pub one_each : length (run i ds).verdicts ≡ length i.job
  -- the run is over
  pub stops : (final i ds).step ≡ Stopped
  -- after at most 3 + (D + 1) (B + 2) transmissions
  pub bounded : (run i ds).transmissions ≤ most_transmissions i

-- what is claimed of the run with no damage (R-10.7)
pub record CleanRun {J : Type 0} (i : Inputs J) : Type 0 where
  -- it has the clean verdicts
  pub verdicts-clean : (run i []).verdicts ≡ clean_verdicts i
  -- and leaves the clean journal after them all
  pub journal-clean : (run i []).journal ≡ clean_journal i (length i.job)

-- what is claimed of the run of the job's first k transactions with no damage (R-10.7)
pub record CleanFirst {J : Type 0} (i : Inputs J) (k : ℕ) : Type 0 where
  -- it has the first k clean verdicts
  pub verdicts-first : (run (shortened i k) []).verdicts ≡ take k (clean_verdicts i)
  -- and leaves the clean journal after k
  pub journal-first : (run (shortened i k) []).journal ≡ clean_journal i k

-- demand 3: of every list of damage, of the clean line, and of every list of faults (R-10.8)
pub record Demand3 {J : Type 0} (i : Inputs J) : Type 0 where
  -- a bad line, whatever list of damage it follows
  pub bad_line : (ds : Damages) → Fair i ds → Claim i ds
  -- a clean line
  pub clean_line : CleanRun i
  -- a clean line and the job's first k transactions
  pub clean-first : (k : ℕ) → CleanFirst i k
  -- with higher limits the same list of faults keeps whatever was accepted or rejected
  pub faults_kept : (faults : List ℕ) (d c : ℕ) → Higher i d c →
      Kept (run i (faulted i faults)).verdicts (run (limited i d c) (faulted (limited i d c) faults)).verdicts
  -- whose damage is fair
  pub faults_fair : (faults : List ℕ) → Fair i (faulted i faults)
