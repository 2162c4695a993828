-- The answers on the line: made of 7-bit values, and at most seven of them.
use mathlib.Core.Bool.{true}
use mathlib.Core.Path.{◌≡◌, refl}
use Prim.Native.Nat.{◌≤◌}
use native.Mathlib.Omega.{arith}
use lib.ListN.{length}
use Rattle.line.specs.Character.{seven}
use Rattle.line.specs.Test.{all}
use Rattle.central.specs.Reaction.{Answer, nothing, idRequest, acceptance, ack, nak, rs, hangUp, answer_text}

-- an answer is made of 7-bit values
pub answer-seven : (a : Answer) → all seven (answer_text a) ≡ true
unfolding all
answer-seven nothing = refl
answer-seven idRequest = refl
answer-seven acceptance = refl
answer-seven ack = refl
answer-seven nak = refl
answer-seven rs = refl
answer-seven hangUp = refl

-- at most seven of them
pub answer-short : (a : Answer) → length (answer_text a) ≤ 7
answer-short nothing = omega arith
answer-short idRequest = omega arith
answer-short acceptance = omega arith
answer-short ack = omega arith
answer-short nak = omega arith
answer-short rs = omega arith
answer-short hangUp = omega arith
