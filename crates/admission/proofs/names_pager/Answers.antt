-- `names_pager` meets its contract: a pager ID whose number the list has.
use mathlib.Core.Bool.{◌&&◌}
use mathlib.Core.Path.{ap, ◌∙◌}
use Rattle.admission.specs.Content.{listed, number_from}
use Rattle.admission.proofs.ContentLaws.{any-listed}
use Rattle.admission.proofs.names_pager.Goals as goal

pub returns : goal.returns
returns c =
    let pagers = c.args.pagers.now in
    c.contains.ensures.value
    ∙ any-listed _ pagers
    ∙ ap (λ n. listed n pagers) c.number.ensures
    ∙ ap (λ b. b && listed (number_from 0 c.args.field.now) pagers) c.if-not-is_pager_id.ensures
