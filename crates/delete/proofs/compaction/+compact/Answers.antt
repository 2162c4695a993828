-- `compact` meets its contract: by the walk back, which it goes: nothing is written before the oldest record is met, and then each record is kept or not as it is chosen.
use Rattle.std.proofs.Common.{◌≡◌, ◌+◌, ◌-◌, sym, ap, ◌∙◌, arith, Ok}
use Rattle.line.proofs.AllLaws.{all-bytes}
use Rattle.line.specs.Answer.{done}
use Rattle.journal.proofs.CursorLaws.{step-place}
use Rattle.journal.specs.Cursor.{transaction_at}
use Rattle.delete.specs.Inner.{Compacts, is_chosen}
use Rattle.delete.proofs.CompactionLaws.{kept_before, compacts_none, compacts_refused, compacts_stopped, compacts_below, compacts_more, compacts-handed}
use Rattle.delete.proofs.compaction.+compact.Goals as goal

pub overflow_add-end : goal.overflow_add-end
overflow_add-end t c = omega (arith, step-place _ _ _ (sym c.in_ok-found.ensures ∙ ap (λ p. done p) c.in-Some.is))

pub slice_bounds-is_chosen-end : goal.slice_bounds-is_chosen-end
slice_bounds-is_chosen-end t c = omega (arith, step-place _ _ _ (sym c.in_ok-found.ensures ∙ ap (λ p. done p) c.in-Some.is))

pub compact-requires : goal.compact-requires
compact-requires t c =
    let s = step-place _ _ _ (sym c.in_ok-found.ensures ∙ ap (λ p. done p) c.in-Some.is) in
    (omega (arith, s, c.decreases), (omega (arith, s), omega (arith, s, c.requires.1)))

pub returns-in_err-kept : goal.returns-in_err-kept
returns-in_err-kept t c =
    let met = sym c.in_ok-found.ensures ∙ ap (λ p. done p) c.in-Some.is in
    compacts-handed _ _ _ _ c.from_residual-in_err-kept.ensures.1 (compacts_stopped _ _ _ _ _ met _ _ c.in_err-kept.ensures)

pub keep-requires : goal.keep-requires
keep-requires t c =
    let a = c.args in
    let met = sym c.in_ok-found.ensures ∙ ap (λ p. done p) c.in-Some.is in
    let s = step-place _ _ _ met in
    let older : Compacts (kept_before a.choice (a.rank + 1) a.journal.now c.in-Some.found.next) (Ok c.in_ok-kept.kept) a.journal.now c.compact.new.journal = c.in_ok-kept.ensures in
    let (low, few) = compacts_below _ _ _ _ _ met _ _ (all-bytes _ c.slice_known-1.given) older in
    (low, omega (arith, s), omega (arith, s, few, c.requires.1))

pub returns : goal.returns
returns t c =
    let a = c.args in
    let q = c.in-Some.found in
    let met = sym c.in_ok-found.ensures ∙ ap (λ p. done p) c.in-Some.is in
    let older : Compacts (kept_before a.choice (a.rank + 1) a.journal.now q.next) (Ok c.in_ok-kept.kept) a.journal.now c.compact.new.journal = c.in_ok-kept.ensures in
    let span : q.start + q.length - q.start ≡ q.length = omega arith in
    let test : c.is_chosen-chosen.result ≡ is_chosen a.choice a.rank (transaction_at a.journal.now q) = rw span at c.is_chosen-chosen.ensures in
    rw (c.keep.ensures.0, c.keep.ensures.1) (compacts_more _ _ _ _ _ met _ _ _ (all-bytes _ c.slice_known-1.given) test older)

pub returns-in_default : goal.returns-in_default
returns-in_default t c = compacts_none _ _ _ _ c.requires.0 (sym c.in_ok-found.ensures ∙ ap (λ p. done p) c.in_default.is)

pub returns-in_err-found : goal.returns-in_err-found
returns-in_err-found t c = compacts-handed _ _ _ _ c.from_residual.ensures.1 (compacts_refused _ _ _ _ _ c.requires.0 (sym c.in_err-found.ensures))
