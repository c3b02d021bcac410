use Rattle.std.proofs.Common.{◌++◌, sym, ap, ◌∙◌, append_assoc}
use Rattle.std.specs.List.{flat_map}
use Rattle.wh_schema.specs.Warehouse.{numbers}
use Rattle.wh_plan.specs.PlanText.{relation_lines}
use Rattle.wh_plan.proofs.OrderLemmas.{flat_numbers_more}
use Rattle.wh_plan.proofs.printing.put_relations.Goals as goal

pub loop-relation-preserved : goal.loop-relation-preserved
loop-relation-preserved c =
    let f = relation_lines c.args.plan.now.spec c.args.heads.now in
    let i = c.loop-relation.relation in
    let first = c.args.out.now.bytes in
    c.in_ok-put_relation.ensures ∙ ap (λ l. l ++ f i) c.loop-relation.invariant
    ∙ append_assoc first (flat_map f (numbers i)) (f i) ∙ ap (λ l. first ++ l) (sym (flat_numbers_more f i))
