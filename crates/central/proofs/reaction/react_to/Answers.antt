-- `react_to` meets its contract: each stage has its function.
use Rattle.std.proofs.Common.{◌≤◌, length, arith}
use Rattle.central.specs.declared.state.Control.{Control}
use Rattle.central.specs.declared.state.Settings.{Settings}
use mathlib.Core.List.{List}
use Prim.Native.Nat.{ℕ}
use borrow.Author.Rules.{rules}
use Rattle.line.proofs.AllLaws.{all-bytes}
use Rattle.central.proofs.ReactedLaws.{does_stores, stores_at}
use Rattle.central.specs.Hearing.{recognized}
use Rattle.central.specs.Inner.{reacts_in}
use Rattle.central.specs.Reaction.{Reaction, reacts, stays}
use Rattle.central.specs.Step.{rules_of}
use Rattle.central.specs.declared.state.Stage.{Stage}
use Rattle.central.specs.declared.state.Stage.TheVariants.{Idle, Logon}
use Rattle.central.proofs.reaction.react_to.Goals as goal

-- what is done with the text, by the stage
abbrev told : Settings → List ℕ → Control → List ℕ → List ℕ → List ℕ → Stage → Reaction (List (List ℕ))
told settings pagers control pending journal text stage = reacts_in settings pagers control pending journal stage (recognized stage text)

pub returns-in-Idle : goal.returns-in-Idle
returns-in-Idle c =
    let a = c.args in
    let p = c.requires in
    let inside : a.control.length ≤ length a.pending.now = omega (arith, p) in
    stores_at (told a.setup.settings a.setup.pagers.now a.control a.pending.now a.journal.now a.text.now) c.in-Idle.is
    (does_stores a.control a.journal.now (all-bytes a.journal.now (search rules)) p.journal (λ x. reacts (rules_of a.setup.settings a.setup.pagers.now) x Idle (recognized Idle a.text.now)) a.pending.now inside (c.in_idle.ensures (rules_of a.setup.settings a.setup.pagers.now)))

pub returns-in-Logon : goal.returns-in-Logon
returns-in-Logon c =
    let a = c.args in
    let p = c.requires in
    let inside : a.control.length ≤ length a.pending.now = omega (arith, p) in
    stores_at (told a.setup.settings a.setup.pagers.now a.control a.pending.now a.journal.now a.text.now) c.in-Logon.is
    (does_stores a.control a.journal.now (all-bytes a.journal.now (search rules)) p.journal (λ x. reacts (rules_of a.setup.settings a.setup.pagers.now) x Logon (recognized Logon a.text.now)) a.pending.now inside (c.in_logon.ensures a.setup.pagers.now))

pub returns-in-Closed : goal.returns-in-Closed
unfolding reacts recognized
returns-in-Closed c =
    let a = c.args in
    let p = c.requires in
    let inside : a.control.length ≤ length a.pending.now = omega (arith, p) in
    stores_at (told a.setup.settings a.setup.pagers.now a.control a.pending.now a.journal.now a.text.now) c.in-Closed.is
    (does_stores a.control a.journal.now (all-bytes a.journal.now (search rules)) p.journal stays a.pending.now inside c.stay.ensures)
