use Rattle.std.proofs.Common.{◌∙◌, ap}
use Rattle.wh_schema.specs.Rules.{located, first_cause, shape_faults, member_attrs}
use Rattle.wh_schema.proofs.Causes.{Gives_is}
use Rattle.wh_schema.proofs.check.check_join.Goals as goal

pub returns : goal.returns
returns c =
    let spec = c.args.spec.now in
    let raw = c.args.raw.now in
    let n = c.args.statement in
    Gives_is c.located.result (located n (first_cause (shape_faults (member_attrs spec raw) raw)))
    (c.located.ensures ∙ ap (located n) (c.check_view_shape.ensures ∙ ap (λ attrs. first_cause (shape_faults attrs raw)) c.in_ok-attrs.ensures))
