-- How many transmissions a device may still make, whatever it reads.
use Rattle.std.specs.Prelude.{List, [], ◌∷◌, ℕ, ◌+◌, ◌-◌, ◌*◌, length, drop}
use Rattle.device.specs.Reaction.{blocks_in, segments_of}
use Rattle.device.specs.declared.state.Place.{Place}
use Rattle.device.specs.declared.state.Settings.{Settings}
use Rattle.device.specs.declared.state.Step.{Step}
use Rattle.device.specs.declared.state.Step.TheVariants.{Opening, Logon, Sending, Closing, Stopped}

-- the blocks of a job (R-6.9)
unfoldable pub job_blocks : Settings → List (List ℕ) → ℕ
job_blocks settings [] = 0
job_blocks settings (t ∷ ts) = length (segments_of settings t) + job_blocks settings ts

-- the blocks of a job behind a place in it
abbrev pub blocks_behind : Settings → List (List ℕ) → Place → ℕ
blocks_behind settings ts p =
    blocks_in settings ts p.transaction - (p.block + 1) + job_blocks settings (drop (p.transaction + 1) ts)

-- the present transmission and those of the same string that may follow it, of `most` in all;
-- and D + 1 of each of the strings behind it
abbrev pub left_of : Settings → ℕ → ℕ → ℕ → ℕ
left_of settings most attempts behind = most - attempts + 1 + (settings.retries + 1) * behind

-- the transmissions that a step may lead to, the present one counted (R-6.9)
unfoldable pub transmissions_left : Settings → List (List ℕ) → Step → ℕ
transmissions_left settings ts (Opening p) = left_of settings 3 p.attempts (job_blocks settings ts + 2)
transmissions_left settings ts (Logon p) = left_of settings (settings.retries + 1) p.attempts (job_blocks settings ts + 1)
transmissions_left settings ts (Sending p) = left_of settings (settings.retries + 1) p.attempts (blocks_behind settings ts p + 1)
transmissions_left settings ts (Closing p) = left_of settings (settings.retries + 1) p.attempts 0
transmissions_left settings ts Stopped = 0
