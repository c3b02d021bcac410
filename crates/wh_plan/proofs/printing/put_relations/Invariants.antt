use Rattle.std.proofs.Common.{◌≡◌, ◌++◌}
use Rattle.std.specs.List.{flat_map}
use Rattle.wh_plan.specs.PlanText.{relation_lines}
use Rattle.wh_schema.specs.Warehouse.{numbers}
use Rattle.wh_plan.proofs.printing.put_relations.Given as goal

abbrev pub invariant-loop-relation : goal.invariant-loop-relation
invariant-loop-relation l = l.out.bytes ≡ l.fn.out.bytes ++ flat_map (relation_lines l.plan.spec l.heads) (numbers l.relation)
