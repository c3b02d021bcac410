use Rattle.std.proofs.Common.{◌≡◌, map, take}
use Rattle.wh_plan.specs.Expressions.{left_column}
use Rattle.wh_plan.proofs.pieces.left_columns.Given as goal

abbrev pub invariant-loop-attr : goal.invariant-loop-attr
invariant-loop-attr l = l.names ≡ map (left_column l.inclusion) (take l.attr-index l.attrs)
