-- A law of answers by their numbers, which docs/ names and no proof uses any more: each has three digits at most.
use Rattle.std.specs.Option.{unwrap_or}
use Prim.Native.Nat.{ℕ, ◌≤◌}
use native.Mathlib.Omega.{arith}
use Rattle.snpp.specs.Reaction.{Answer, nothing, ready, success, goodbye, unknown, order, badText, failed, answer_number}

-- the number, and 0 where there is none
abbrev pub number_of : Answer → ℕ
number_of a = unwrap_or (answer_number a) 0

-- it has three digits at most
pub number_small : (a : Answer) → number_of a ≤ 999
number_small nothing = omega arith
number_small ready = omega arith
number_small success = omega arith
number_small goodbye = omega arith
number_small unknown = omega arith
number_small order = omega arith
number_small badText = omega arith
number_small failed = omega arith
