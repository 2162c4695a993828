-- `unrecognized` meets its contract: each stage does what it does with noise.
use mathlib.Core.Logic.{inl, inr}
use Rattle.central.specs.Hearing.{noise}
use Rattle.central.specs.Reaction.{reacts}
use Rattle.central.specs.Step.{rules_of}
use Rattle.central.proofs.ReactedLaws.{does_at}
use Rattle.central.proofs.reaction.unrecognized.Goals as goal

pub returns-in-Idle : goal.returns-in-Idle
unfolding reacts
returns-in-Idle c =
    let a = c.args in
    λ pagers. elim c.in-Idle.is [
      | inl e ↦ does_at (λ x d. reacts (rules_of a.settings pagers) d x noise) e c.stay.ensures
      | inr e ↦ does_at (λ x d. reacts (rules_of a.settings pagers) d x noise) e c.stay.ensures
    ]

pub returns-in-Logon : goal.returns-in-Logon
unfolding reacts
returns-in-Logon c =
    let a = c.args in
    λ pagers. elim c.in-Logon.is [
      | inl e ↦ does_at (λ x d. reacts (rules_of a.settings pagers) d x noise) e (c.fail.ensures pagers)
      | inr e ↦ does_at (λ x d. reacts (rules_of a.settings pagers) d x noise) e (c.fail.ensures pagers)
    ]
