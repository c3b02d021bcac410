use Rattle.std.proofs.Common.{◌≡◌, take}
use Rattle.wh_plan.specs.Expressions.{joined_names}
use Rattle.wh_schema.specs.Warehouse.{pieces_at}
use Rattle.wh_plan.proofs.inverse.joined_names.Given as goal

abbrev pub invariant-loop-number : goal.invariant-loop-number
invariant-loop-number l = l.names ≡ joined_names (pieces_at l.pieces (take l.number-index l.cover))
