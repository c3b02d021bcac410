use Rattle.std.proofs.Common.{◌≡◌, take, map}
use Rattle.wh_plan.specs.Expressions.{left_column}
use Rattle.wh_inverse.proofs.parts.left_columns.Given as goal

abbrev pub invariant-loop-name : goal.invariant-loop-name
invariant-loop-name l = l.names ≡ map (left_column l.inclusion) (take l.name-index l.cols)
