use Rattle.std.proofs.Common.{◌∙◌, sym}
use Rattle.std.proofs.lemmas.Result.{err_from_is_err_and}
use Rattle.wh_schema.specs.Rules.{relation_name_faults, attribute_faults}
use Rattle.wh_schema.proofs.Causes.{first_cause_left}
use Rattle.wh_schema.proofs.rules.check_relation.Goals as goal

pub returns-in_err-check_relation_name : goal.returns-in_err-check_relation_name
returns-in_err-check_relation_name c =
    let spec = c.args.spec.now in
    let raw = c.args.raw.now in
    let p = err_from_is_err_and c.from_residual.result c.from_residual.ensures.1 in
    rw (p.1, p.2) (sym (first_cause_left (relation_name_faults spec raw) (attribute_faults spec raw) _ (sym c.check_relation_name.ensures ∙ c.in_err-check_relation_name.was)))
