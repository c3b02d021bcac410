use Rattle.std.proofs.Common.{◌∙◌, ap, unwrap_or}
use Rattle.std.proofs.lemmas.Option.{unwrap_or-slice_get}
use Rattle.wh_base.specs.Columns.{names_of}
use Rattle.wh_schema.specs.Warehouse.{no_relation}
use Rattle.wh_lossless.proofs.joining.columns_of.Goals as goal

pub returns-in-None : goal.returns-in-None
returns-in-None c =
    c.new.ensures ∙ ap (λ r. names_of r.attrs) (ap (λ o. unwrap_or o no_relation) c.in-None.ensures.value ∙ unwrap_or-slice_get c.args.spec.now.relations c.args.relation no_relation)
