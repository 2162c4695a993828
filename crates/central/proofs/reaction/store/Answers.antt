-- `store` meets its contract: what is admitted is stored, and what is not is refused.
use Rattle.std.specs.Prelude.{Ok, Some, None}
use mathlib.Core.Path.{◌≡◌, ap, ◌∙◌}
use Prim.Native.Nat.{ℕ}
use native.Mathlib.Omega.{arith}
use borrow.Author.Rules.{rules}
use Rattle.line.proofs.AllLaws.{all-bytes}
use Rattle.line.specs.Answer.{outcome_of}
use Rattle.central.proofs.ReactedLaws.{concludes-stored, concludes-dropped}
use Rattle.central.proofs.reaction.store.Goals as goal
use Rattle.central.proofs.reaction.store.Goals.{in_default-via-in-Ok+in_default, in_default-via-in_default}

pub returns-in_default : goal.returns-in_default
returns-in_default c =
    let a = c.args in
    let p = c.requires in
    let not-stored : (n : ℕ) → c.admit.result ≡ Ok (Some n) → ⊥ = λ n e. elim c.in_default.branch [
      | in_default-via-in-Ok+in_default w ↦
          let none : w.in_default.field-0 ≡ None = search rules in
          let z : ◌≡◌ {A = ℕ} 0 1 = cc (e, none) in
          omega (arith, z)
      | in_default-via-in_default w ↦
          let z : ◌≡◌ {A = ℕ} 0 1 = cc e in
          omega (arith, z)
    ] in
    λ array fits.
    concludes-dropped a.control a.journal.now (all-bytes a.journal.now (search rules)) p.0 a.setup.settings a.setup.pagers.now a.info.now p.1 c.admit.ensures array not-stored fits c.enter.ensures

pub returns : goal.returns
returns c =
    let a = c.args in
    let p = c.requires in
    let stored : c.admit.result ≡ Ok (Some c.in-Ok-Some.n) = c.in-Ok-Some.is ∙ ap (λ x. Ok x) c.in-Ok-Some.field-0-is in
    λ array fits.
    concludes-stored a.control a.journal.now (all-bytes a.journal.now (search rules)) p.0 a.setup.settings a.setup.pagers.now a.info.now p.1 c.admit.ensures array _ (ap outcome_of stored) fits c.enter-2.ensures
