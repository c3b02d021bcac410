use Rattle.std.proofs.Common.{◌++◌, ◌∙◌, sym, ap, Err}
use Rattle.std.proofs.lemmas.Result.{err_from_is_err_and}
use Rattle.wh_schema.specs.Rules.{located, first_cause, inclusion_faults, inclusion_name_faults, bad_inclusion, attrs_of, cyclic}
use Rattle.wh_schema.proofs.Causes.{Gives_is, located_left}
use Rattle.wh_schema.proofs.check.check_inclusion.Goals as goal

pub returns-in_err-located : goal.returns-in_err-located
returns-in_err-located c =
    let spec = c.args.spec.now in
    let raw = c.args.raw.now in
    let n = c.args.statement in
    let p = err_from_is_err_and c.from_residual.result c.from_residual.ensures.1 in
    let was = ap (located n) (sym c.check_inclusion_sides.ensures) ∙ sym c.located.ensures ∙ c.in_err-located.was in
    let left = located_left n (inclusion_name_faults spec raw ++ bad_inclusion (attrs_of spec raw.from) (attrs_of spec raw.to) raw) (cyclic spec raw) _ was in
    Gives_is c.from_residual.result (located n (first_cause (inclusion_faults spec raw))) (p.1 ∙ ap Err p.2 ∙ sym left)
