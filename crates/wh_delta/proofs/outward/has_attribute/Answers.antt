use Rattle.std.proofs.Common.{◌∙◌, ap}
use Rattle.std.specs.List.{list_any}
use Rattle.wh_base.specs.Columns.{name_eq, is_in, names_of}
use Rattle.wh_schema.specs.Warehouse.{relation_at}
use Rattle.wh_delta.proofs.Attributes.{any_named, relation_found, relation_missing}
use Rattle.wh_delta.proofs.outward.has_attribute.Goals as goal

pub returns-in-Some : goal.returns-in-Some
returns-in-Some c =
    let spec = c.args.spec.now in
    let name = c.args.name.now in
    let is = relation_found spec c.args.relation c.in-Some.relation.now c.in-Some.ensures.value in
    c.is_named.ensures ∙ ap (list_any (λ a. name_eq name a.name)) (c.as_slice.ensures ∙ ap (λ r. r.attrs) is) ∙ any_named (name_eq name) (relation_at spec c.args.relation).attrs

pub returns-in-None : goal.returns-in-None
returns-in-None c = ap (λ r. is_in (names_of r.attrs) c.args.name.now) (relation_missing c.args.spec.now c.args.relation c.in-None.ensures.value)
