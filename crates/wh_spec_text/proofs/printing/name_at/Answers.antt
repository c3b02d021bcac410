use Rattle.std.proofs.Common.{◌∙◌, ap, unwrap_or}
use Rattle.std.proofs.lemmas.Option.{unwrap_or-slice_get}
use Rattle.wh_schema.specs.Warehouse.{no_relation}
use Rattle.wh_spec_text.proofs.printing.name_at.Goals as goal

pub returns-in-None : goal.returns-in-None
returns-in-None c =
    ap (λ r. r.name) (ap (λ o. unwrap_or o no_relation) c.in-None.ensures.value ∙ unwrap_or-slice_get c.args.spec.now.relations c.args.number no_relation)
