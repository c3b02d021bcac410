use Rattle.std.proofs.Common.{◌≡◌, map}
use Rattle.wh_plan.specs.Expressions.{view_expr}
use Rattle.wh_schema.specs.Warehouse.{numbers}
use Rattle.wh_plan.proofs.inverse.view_exprs.Given as goal

abbrev pub invariant-loop-number : goal.invariant-loop-number
invariant-loop-number l = l.exprs ≡ map (view_expr l.spec) (numbers l.number)
