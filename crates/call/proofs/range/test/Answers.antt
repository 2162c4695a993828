-- `test` meets its contract: each test leaves one case of the definition.
use Rattle.line.proofs.OutcomeLaws.{handed-refusal}
use mathlib.Core.Path.{◌≡◌, sym, ◌∙◌}
use mathlib.Core.Bool.{true}
use Rattle.line.specs.Test.{all}
use Rattle.journal.specs.Storage.{is_buffer}
use Rattle.call.specs.Call.{ends_in_range, fault}
use Rattle.call.specs.Inner.{setup_of}
use Rattle.call.proofs.TestedLaws.{ends-refused, faults_refused, size-refused, job-refused, journal-refused, Read, uncut_refused, all-passed}
use Rattle.call.proofs.range.test.Goals as goal
use Rattle.call.proofs.range.test.Goals.{Else-not-ends_in_range, Else-not-are_faults, Else-not-is_buffer, In_ok-check_in}

-- the settings are in range
ranged : (c : Else-not-ends_in_range) → let s = c.args.setup in ends_in_range s.device s.central s.pagers.now ≡ true
ranged c = sym c.ends_in_range.ensures ∙ c.if-not-ends_in_range.false

-- the faults are in range
right : (c : Else-not-are_faults) → all fault c.args.faults.now ≡ true
right c = sym c.are_faults.ensures ∙ c.if-not-are_faults.false

-- the buffer has its size
sized : (c : Else-not-is_buffer) → is_buffer c.args.journal.now ≡ true
sized c = sym c.is_buffer.ensures ∙ c.if-not-is_buffer.false

-- the job and the journal are well formed
both : (c : In_ok-check_in) →
    let a = c.args in
    Read (setup_of a.setup) a.journal.now a.length a.faults.now c.in_ok-count.count
both c =
    let at = goal.at.In_ok-check_in c in
    record {
      ends = ranged at.Else-not-ends_in_range;
      right = right at.Else-not-are_faults;
      size = sized at.Else-not-is_buffer;
      counts = sym c.in_ok-count.ensures;
      many = _;
      held = sym c.in_ok-check_in.ensures;
    }

pub returns-then-not-ends_in_range : goal.returns-then-not-ends_in_range
returns-then-not-ends_in_range c = ends-refused _ _ _ _ (sym c.ends_in_range.ensures ∙ c.if-not-ends_in_range.true)

pub returns-then-not-are_faults : goal.returns-then-not-are_faults
returns-then-not-are_faults c =
    let at = goal.at.returns-then-not-are_faults c in
    faults_refused _ _ _ _ (ranged at.Else-not-ends_in_range) (sym c.are_faults.ensures ∙ c.if-not-are_faults.true)

pub returns-then-not-is_buffer : goal.returns-then-not-is_buffer
returns-then-not-is_buffer c =
    let at = goal.at.returns-then-not-is_buffer c in
    size-refused _ _ _ _ (ranged at.Else-not-ends_in_range) (right at.Else-not-are_faults) (sym c.is_buffer.ensures ∙ c.if-not-is_buffer.true)

pub returns-in_err-count : goal.returns-in_err-count
returns-in_err-count c =
    let at = goal.at.returns-in_err-count c in
    handed-refusal _ _ c.from_residual.ensures.1
    ∙ job-refused _ _ _ _ (ranged at.Else-not-ends_in_range) (right at.Else-not-are_faults) (sized at.Else-not-is_buffer) _ (sym c.in_err-count.ensures)

pub returns-in_err-check_in : goal.returns-in_err-check_in
returns-in_err-check_in c =
    let at = goal.at.returns-in_err-check_in c in
    handed-refusal _ _ c.from_residual-in_err-check_in.ensures.1
    ∙ journal-refused _ _ _ _ (ranged at.Else-not-ends_in_range) (right at.Else-not-are_faults) (sized at.Else-not-is_buffer) _ (sym c.in_ok-count.ensures) _ (sym c.in_err-check_in.ensures)

pub returns-then-not-cuts_all : goal.returns-then-not-cuts_all
returns-then-not-cuts_all c =
    uncut_refused _ _ _ _ (both (goal.at.returns-then-not-cuts_all c).In_ok-check_in) (sym c.cuts_all.ensures ∙ c.if-not-cuts_all.true)

pub returns : goal.returns
returns c = all-passed _ _ _ _ (both (goal.at.returns c).In_ok-check_in) (sym c.cuts_all.ensures ∙ c.if-not-cuts_all.false)
