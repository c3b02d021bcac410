use Rattle.std.proofs.Common.{◌∙◌, sym}
use Rattle.std.proofs.lemmas.Result.{err_from_is_err_and}
use Rattle.wh_schema.specs.Rules.{view_name_faults, member_faults}
use Rattle.wh_schema.proofs.Causes.{first_cause_left}
use Rattle.wh_schema.proofs.rules.check_view_names.Goals as goal

pub returns-in_err-check_view_name : goal.returns-in_err-check_view_name
returns-in_err-check_view_name c =
    let spec = c.args.spec.now in
    let raw = c.args.raw.now in
    let p = err_from_is_err_and c.from_residual.result c.from_residual.ensures.1 in
    rw (p.1, p.2) (sym (first_cause_left (view_name_faults spec raw) (member_faults spec raw) _ (sym c.check_view_name.ensures ∙ c.in_err-check_view_name.was)))
