use Rattle.std.proofs.Common.{◌∙◌, ◌<◌, ◌++◌, ◌∷◌, [], length, sym, arith, zero-add}
use Rattle.std.proofs.lemmas.List.FromFn.{map-range_with_len_more}
use Rattle.wh_schema.specs.Warehouse.{pieces}
use Rattle.wh_plan.specs.Expressions.{inverse_expr}
use Rattle.wh_plan.specs.Plan.{relation_covers}
use Rattle.wh_plan.proofs.PlanLemmas.{place_within, item_is}
use Rattle.wh_plan.proofs.make.inverse_exprs.Goals as goal

pub bounds-as_slice-relation : goal.bounds-as_slice-relation
bounds-as_slice-relation c =
    let spec = c.args.spec.now in
    let within : c.loop-relation.relation < length spec.relations = omega (arith, c.len-relation-end.ensures) in
    place_within (pieces spec) (length spec.relations) c.loop-relation.relation c.as_slice.result.now within (c.as_slice.ensures ∙ c.requires.pieces)

pub bounds-as_slice-relation-in-loop-relation : goal.bounds-as_slice-relation-in-loop-relation
bounds-as_slice-relation-in-loop-relation c =
    let spec = c.args.spec.now in
    let within : c.loop-relation.relation < length spec.relations = omega (arith, c.len-relation-end.ensures) in
    place_within (relation_covers spec) (length spec.relations) c.loop-relation.relation c.as_slice-in-loop-relation.result.now within (c.as_slice-in-loop-relation.ensures ∙ c.requires.covers)

pub inverse_expr-requires-clause-pieces : goal.inverse_expr-requires-clause-pieces
inverse_expr-requires-clause-pieces c =
    let spec = c.args.spec.now in
    let within : c.loop-relation.relation < length spec.relations = omega (arith, c.len-relation-end.ensures) in
    item_is (pieces spec) (length spec.relations) c.loop-relation.relation c.as_slice.result.now within (c.as_slice.ensures ∙ c.requires.pieces) c.index-as_slice-relation.result c.index-as_slice-relation.is

pub inverse_expr-requires-clause-covers : goal.inverse_expr-requires-clause-covers
inverse_expr-requires-clause-covers c =
    let spec = c.args.spec.now in
    let within : c.loop-relation.relation < length spec.relations = omega (arith, c.len-relation-end.ensures) in
    item_is (relation_covers spec) (length spec.relations) c.loop-relation.relation c.as_slice-in-loop-relation.result.now within (c.as_slice-in-loop-relation.ensures ∙ c.requires.covers)
    c.index-as_slice-relation-in-loop-relation.result c.index-as_slice-relation-in-loop-relation.is

pub loop-relation-preserved : goal.loop-relation-preserved
loop-relation-preserved c =
    let i = c.loop-relation.relation in
    c.in_ok-push.ensures.ok
    ∙ (λ j. c.loop-relation.invariant j ++ c.in_ok-inverse_expr.ensures j ∷ [])
    ∙ sym (map-range_with_len_more (inverse_expr c.args.spec.now) 0 i i (zero-add i))
