-- `put_answer` meets its contract: the characters of the answer are spelled, and have their parity set.
use native.Mathlib.Omega.{arith}
use lib.ListN.{length}
use Rattle.line.proofs.ParityLaws.{parity-made}
use Rattle.central.proofs.AnswerLaws.{answer-seven, answer-short}
use Rattle.central.specs.Inner.{answer_of}
use Rattle.central.specs.Reaction.{answer_text}
use Rattle.central.proofs.answer.put_answer.Goals as goal

pub returns : goal.returns
returns c =
    let a = c.args in
    let made = parity-made (answer_text (answer_of a.answer)) (length a.out.now) (answer-seven (answer_of a.answer)) (omega (arith, answer-short (answer_of a.answer))) in
    rw (c.text_of.ensures, made) at c.set_parity.ensures
