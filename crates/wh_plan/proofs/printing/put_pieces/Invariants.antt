use Rattle.std.proofs.Common.{◌≡◌, ◌++◌}
use Rattle.std.specs.List.{flat_map}
use Rattle.wh_plan.specs.PlanText.{piece_line}
use Rattle.wh_schema.specs.Warehouse.{numbers}
use Rattle.wh_plan.proofs.printing.put_pieces.Given as goal

abbrev pub invariant-loop-place : goal.invariant-loop-place
invariant-loop-place l = l.out.bytes ≡ l.fn.out.bytes ++ flat_map (piece_line l.spec l.heads l.pieces) (numbers l.place)
