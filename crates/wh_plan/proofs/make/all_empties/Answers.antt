use Rattle.std.proofs.Common.{◌∙◌, ◌++◌, ◌∷◌, [], sym, zero-add}
use Rattle.std.proofs.lemmas.List.FromFn.{map-range_with_len_more}
use Rattle.wh_schema.specs.EmptyMark.{always_empty}
use Rattle.wh_plan.proofs.make.all_empties.Goals as goal

pub loop-relation-preserved : goal.loop-relation-preserved
loop-relation-preserved c =
    let i = c.loop-relation.relation in
    c.in_ok-push.ensures.ok
    ∙ (λ j. c.loop-relation.invariant j ++ c.in_ok-always_empty.ensures j ∷ [])
    ∙ sym (map-range_with_len_more (always_empty c.args.spec.now) 0 i i (zero-add i))
