use Rattle.std.proofs.Common.{◌≡◌, ◌∙◌, sym, arith, ◌++◌, ◌∷◌, [], ◌<◌, drop, length, zero-add}
use Rattle.std.proofs.lemmas.Result.{err_from_is_err_and}
use Rattle.std.proofs.lemmas.List.FromFn.{map-range_with_len_more}
use Rattle.wh_schema.specs.Warehouse.{pieces}
use Rattle.wh_plan.specs.Plan.{relation_covers, first_too_many, all_pieces}
use Rattle.wh_plan.proofs.PlanLemmas.{goes_on, ends_here, none_left}
use Rattle.wh_plan.proofs.make.cover_all.Goals as goal

pub returns-in_err-cover_relation-clause-fault : goal.returns-in_err-cover_relation-clause-fault
returns-in_err-cover_relation-clause-fault c =
    let p = err_from_is_err_and c.from_residual.result c.from_residual.ensures.1 in
    let within : c.loop-relation.relation < length c.args.spec.now.relations = omega (arith, c.len-relation-end.ensures) in
    rw (p.1, p.2) (ends_here c.args.spec.now c.loop-relation.relation within c.in_err-cover_relation.field-0.0 c.loop-relation.invariant.none_too_many c.in_err-cover_relation.ensures.fault)

pub loop-relation-preserved : goal.loop-relation-preserved
loop-relation-preserved c =
    let spec = c.args.spec.now in
    let i = c.loop-relation.relation in
    let within : i < length spec.relations = omega (arith, c.len-relation-end.ensures) in
    record {
      pieces_so_far = c.in_ok-cover_relation.ensures.pieces ∙ (λ j. c.loop-relation.invariant.pieces_so_far j ++ pieces spec i ∷ []) ∙ sym (map-range_with_len_more (pieces spec) 0 i i (zero-add i));
      covers_so_far = c.in_ok-cover_relation.ensures.covers ∙ (λ j. c.loop-relation.invariant.covers_so_far j ++ relation_covers spec i ∷ []) ∙ sym (map-range_with_len_more (relation_covers spec) 0 i i (zero-add i));
      none_too_many = c.loop-relation.invariant.none_too_many ∙ goes_on spec i within c.in_ok-cover_relation.ensures.few;
    }

pub returns-clause-few : goal.returns-clause-few
returns-clause-few c =
    let spec = c.args.spec.now in
    let all : c.loop-relation.relation ≡ length spec.relations = omega (arith, c.len-relation-end.ensures) in
    c.loop-relation.invariant.none_too_many ∙ (λ j. first_too_many (all j) (drop (all j) (all_pieces spec))) ∙ none_left spec
