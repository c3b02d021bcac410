use Rattle.std.proofs.Common.{◌∙◌, ap}
use Rattle.std.specs.List.{list_any}
use Rattle.wh_base.specs.Columns.{is_in, names_of}
use Rattle.wh_schema.specs.Warehouse.{relation_at, columns_of}
use Rattle.wh_delta.proofs.Attributes.{any_named, relation_found, relation_missing}
use Rattle.wh_delta.proofs.outward.shares_attribute.Goals as goal

pub returns-in-Some : goal.returns-in-Some
returns-in-Some c =
    let spec = c.args.spec.now in
    let test = is_in (columns_of spec c.args.one) in
    let is = relation_found spec c.args.other c.in-Some.relation.now c.in-Some.ensures.value in
    c.has_one.ensures ∙ ap (list_any (λ a. test a.name)) (c.as_slice.ensures ∙ ap (λ r. r.attrs) is) ∙ any_named test (relation_at spec c.args.other).attrs

pub returns-in-None : goal.returns-in-None
returns-in-None c =
    let test = is_in (columns_of c.args.spec.now c.args.one) in
    ap (λ r. list_any test (names_of r.attrs)) (relation_missing c.args.spec.now c.args.other c.in-None.ensures.value)
