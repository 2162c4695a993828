-- `is_page` meets its contract: the fields are counted, and the first field is what stands before the first CR.
use mathlib.Core.Path.{sym}
use lib.Seq.{length-take-le}
use Rattle.admission.specs.Content.{is_page}
use Rattle.admission.proofs.ContentLaws.{first_found}
use Rattle.admission.proofs.is_page.Goals as goal

pub slice_bounds-is_pager_id-end : goal.slice_bounds-is_pager_id-end
slice_bounds-is_pager_id-end c = sym (length-take-le _ _ (first_found _ _ c.find-end.ensures).0)

pub returns : goal.returns
unfolding is_page
returns c = rw (c.count_fields.ensures, c.is_pager_id.ensures, (first_found _ _ c.find-end.ensures).1)
