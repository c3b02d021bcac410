use Rattle.std.proofs.Common.{◌≡◌, map, take}
use Rattle.wh_plan.specs.Expressions.{piece_expr}
use Rattle.wh_schema.specs.Warehouse.{pieces_at}
use Rattle.wh_plan.proofs.inverse.piece_exprs.Given as goal

abbrev pub invariant-loop-number : goal.invariant-loop-number
invariant-loop-number l = l.exprs.items ≡ map (piece_expr l.spec) (pieces_at l.pieces (take l.number-index l.cover))
