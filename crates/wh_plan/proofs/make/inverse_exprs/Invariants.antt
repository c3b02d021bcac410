use Rattle.std.proofs.Common.{◌≡◌, map}
use Rattle.wh_plan.specs.Expressions.{inverse_expr}
use Rattle.wh_schema.specs.Warehouse.{numbers}
use Rattle.wh_plan.proofs.make.inverse_exprs.Given as goal

abbrev pub invariant-loop-relation : goal.invariant-loop-relation
invariant-loop-relation l = l.exprs ≡ map (inverse_expr l.spec) (numbers l.relation)
