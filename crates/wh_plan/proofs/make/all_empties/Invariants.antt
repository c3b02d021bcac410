use Rattle.std.proofs.Common.{◌≡◌, map}
use Rattle.wh_schema.specs.EmptyMark.{always_empty}
use Rattle.wh_schema.specs.Warehouse.{numbers}
use Rattle.wh_plan.proofs.make.all_empties.Given as goal

abbrev pub invariant-loop-relation : goal.invariant-loop-relation
invariant-loop-relation l = l.empties ≡ map (always_empty l.spec) (numbers l.relation)
