-- How accepted verdicts stand as C numbers it, and a verdict buffer settled by the number.
use Rattle.std.specs.Prelude.{List, ℕ, eqb, ltb, if◌then◌else◌}
use Rattle.line.specs.Answer.{Outcome, done, refused}
use Rattle.device.specs.Settling.{settled_numbers}
use Rattle.device.specs.declared.settling.Standing.{Standing}
use Rattle.device.specs.declared.settling.Standing.TheVariants.{Open, Confirmed, InDoubt}

-- the number of a standing (R-13.1)
abbrev pub standing_number : Standing → ℕ
standing_number Open = 0
standing_number Confirmed = 1
standing_number InDoubt = 2

-- the standing of a number that is one of these (R-13.1)
abbrev pub standing_for : ℕ → Standing
standing_for n = if eqb n 0 then Open else if eqb n 1 then Confirmed else InDoubt

-- a verdict buffer settled by the number of a standing: 9 where it is none (R-13.1)
unfoldable pub settled_as : ℕ → List ℕ → Outcome (List ℕ)
settled_as n verdicts = if ltb 2 n then refused 9 else done (settled_numbers (standing_for n) verdicts)
