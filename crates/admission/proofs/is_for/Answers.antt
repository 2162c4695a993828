-- `is_for` meets its contract: the first field is what stands before the first CR, and the list of that number alone has it.
use mathlib.Core.Bool.{or-false}
use mathlib.Core.Path.{sym}
use lib.Seq.{length-take-le}
use Rattle.admission.specs.Content.{is_for, listed}
use Rattle.admission.proofs.ContentLaws.{first_found}
use Rattle.admission.proofs.is_for.Goals as goal

pub slice_bounds-names_pager-end : goal.slice_bounds-names_pager-end
slice_bounds-names_pager-end c = sym (length-take-le _ _ (first_found _ _ c.find-end.ensures).0)

pub returns : goal.returns
unfolding is_for listed
returns c = rw (c.names_pager.ensures, (first_found _ _ c.find-end.ensures).1, or-false)
