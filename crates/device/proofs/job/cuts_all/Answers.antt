-- `cuts_all` meets its contract: filled blocks cut every job; else the walk back from the trailer decides, and of what has none nothing is found.
use mathlib.Core.Path.{sym, ap, ◌∙◌}
use Rattle.line.specs.Answer.{outcome_of}
use Rattle.journal.proofs.EncodingLaws.{trailer-inside}
use Rattle.device.specs.Step.{cuts_all}
use Rattle.device.proofs.CutLaws.{cuts_filled, cuts_newest}
use Rattle.device.proofs.job.cuts_all.Goals as goal

pub returns-in_default : goal.returns-in_default
unfolding cuts_all
returns-in_default c =
    let a = c.args in
    sym (cuts_newest a.way a.job.now ∙ rw (sym c.«open».ensures ∙ ap outcome_of c.in_default.is))

pub cuts_from-requires : goal.cuts_from-requires
cuts_from-requires c = trailer-inside _ _ (sym c.«open».ensures ∙ ap outcome_of c.in-Ok.is)

pub returns-in-Filled : goal.returns-in-Filled
returns-in-Filled c = rw c.in-Filled.is (sym (cuts_filled _))

pub returns-in-Ok : goal.returns-in-Ok
returns-in-Ok c =
    let a = c.args in
    c.cuts_from.ensures ∙ sym (cuts_newest a.way a.job.now ∙ rw (sym c.«open».ensures ∙ ap outcome_of c.in-Ok.is))
