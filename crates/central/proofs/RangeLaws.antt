-- What settings and a saved state that are in range say of their numbers.
use mathlib.Core.Bool.{true, ◌&&◌, and-eq-true_iff}
use mathlib.Core.List.{List}
use mathlib.Core.Path.{◌≡◌}
use Prim.Native.Nat.{ℕ, ◌≤◌}
use native.Mathlib.Omega.{arith}
use borrow.Author.Tests.{leb-true, eqb-true}
use lib.Dec.{leb}
use lib.ListN.{length}
use Rattle.line.specs.Character.{alphanumeric, textual}
use Rattle.line.specs.Password.{password_text, password_in_range}
use Rattle.line.specs.Test.{all}
use Rattle.central.specs.Inner.{Readable, Ready, pending_in}
use Rattle.central.specs.Lent.{state_of}
use Rattle.central.specs.Step.{settings_in_range, pagers_in_range, failures_in_range, length_in_range, state_in_range}
use Rattle.central.specs.declared.state.Settings.{Settings}
use Rattle.central.specs.declared.state.Stage.{Stage}
use Rattle.central.specs.declared.state.Stage.TheVariants.{Idle, Logon, Block, Closed}
use Rattle.central.specs.declared.state.Control.{Control}

-- a row of failures in range is at most C
failures_most : (stage : Stage) (most n : ℕ) → failures_in_range stage most n ≡ true → n ≤ most
failures_most Idle most n e = omega (arith, eqb-true n 0 e)
failures_most Logon most n e = leb-true n most e
failures_most Block most n e = leb-true n most e
failures_most Closed most n e = omega (arith, eqb-true n 0 e)

-- unfinished information in range is at most L long
pub length_most : (stage : Stage) (most n : ℕ) → length_in_range stage most n ≡ true → n ≤ most
length_most Idle most n e = omega (arith, eqb-true n 0 e)
length_most Logon most n e = omega (arith, eqb-true n 0 e)
length_most Block most n e = leb-true n most e
length_most Closed most n e = omega (arith, eqb-true n 0 e)

-- settings in range: the longest transaction is at most 2,000
pub settings_longest : (settings : Settings) → settings_in_range settings ≡ true → settings.longest ≤ 2000
settings_longest settings e =
    let (p, _) = (and-eq-true_iff _ (leb settings.retries 9)).0 e in
    leb-true settings.longest 2000 ((and-eq-true_iff (password_in_range settings.password && leb 3 settings.longest) (leb settings.longest 2000)).0 p).1

-- what passes the tests is ready
pub ready : (settings : Settings) (pagers : List ℕ) (k : Control) (array buffer : List ℕ) → length array ≡ 2000 →
    settings_in_range settings && pagers_in_range pagers && state_in_range settings (state_of k array) ≡ true → Readable buffer k.journal → Ready settings k array buffer
ready settings pagers k array buffer size e read =
    let (p, state) = (and-eq-true_iff _ (state_in_range settings (state_of k array))).0 e in
    let (setting, _) = (and-eq-true_iff (settings_in_range settings) _).0 p in
    let (q, retries) = (and-eq-true_iff _ (leb settings.retries 9)).0 setting in
    let (word, _) = (and-eq-true_iff (password_in_range settings.password) (leb 3 settings.longest)).0 ((and-eq-true_iff _ (leb settings.longest 2000)).0 q).0 in
    let (r, characters) = (and-eq-true_iff _ (all textual (pending_in k array))).0 state in
    let (failures, pending) = (and-eq-true_iff (failures_in_range k.stage settings.retries k.failures) _).0 r in
    record {
      password = leb-true settings.password.length 6 ((and-eq-true_iff (leb settings.password.length 6) (all alphanumeric (password_text settings.password))).0 word).0;
      longest = settings_longest settings setting;
      retries = leb-true settings.retries 9 retries;
      failures = failures_most k.stage settings.retries k.failures failures;
      pending = length_most k.stage settings.longest k.length pending;
      sized = size;
      characters = characters;
      journal = read;
    }
