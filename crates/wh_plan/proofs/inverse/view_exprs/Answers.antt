use Rattle.std.proofs.Common.{◌∙◌, ◌++◌, ◌∷◌, [], sym, zero-add}
use Rattle.std.proofs.lemmas.List.FromFn.{map-range_with_len_more}
use Rattle.wh_plan.specs.Expressions.{view_expr}
use Rattle.wh_plan.proofs.inverse.view_exprs.Goals as goal

pub loop-number-preserved : goal.loop-number-preserved
loop-number-preserved c =
    let i = c.loop-number.number in
    c.in_ok-push.ensures.ok
    ∙ (λ j. c.loop-number.invariant j ++ c.in_ok-view_expr.ensures j ∷ [])
    ∙ sym (map-range_with_len_more (view_expr c.args.spec.now) 0 i i (zero-add i))
