-- What the functions inside a step hand on: the transaction whose block a step sends, found by one walk over the job.
use Rattle.std.specs.Prelude.{true, List, [], ◌≡◌, ℕ, eqb, get_or, if◌then◌else◌}
use Rattle.journal.specs.Encoding.{all_legal}
use Rattle.journal.specs.declared.record.Extent.{Extent}
use Rattle.journal.specs.declared.record.Located.{Located}
use Rattle.device.specs.Step.{cuts_all, exists}
use Rattle.device.specs.declared.state.Settings.{Settings}
use Rattle.device.specs.declared.state.Step.{Step}
use Rattle.device.specs.declared.state.Step.TheVariants.{Opening, Logon, Sending, Closing, Stopped}

-- the transaction whose block a step sends; the first outside sending
abbrev pub transaction_of : Step → ℕ
transaction_of (Opening p) = 0
transaction_of (Logon p) = 0
transaction_of (Sending p) = p.transaction
transaction_of (Closing p) = 0
transaction_of Stopped = 0

-- where the transaction of the next step lies, by a survey at that of the step before: the same, or the one behind it
abbrev pub extent_for : Located → ℕ → ℕ → Extent
extent_for found from to = if eqb to from then found.here else found.next

-- a sending step sends a block of this transaction
abbrev pub SendsOf : List (List ℕ) → Step → List ℕ → Type 0
SendsOf job (Opening p) info = Unit {0}
SendsOf job (Logon p) info = Unit {0}
SendsOf job (Sending p) info = get_or job p.transaction [] ≡ info
SendsOf job (Closing p) info = Unit {0}
SendsOf job Stopped info = Unit {0}

-- the step's place exists in a job of legal transactions that the settings' way can cut, and this is the one whose block it
-- sends
pub record Waits (settings : Settings) (job : List (List ℕ)) (step : Step) (info : List ℕ) : Type 0 where
  pub good : all_legal job ≡ true
  pub cut : cuts_all settings.way job ≡ true
  pub there : exists settings job step ≡ true
  pub shows : SendsOf job step info
