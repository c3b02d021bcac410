use Rattle.std.proofs.Common.{◌≡◌, [], length}
use Rattle.wh_schema.specs.Reconstruction.{iterate, take_next, is_ready}
use Rattle.wh_schema.specs.Warehouse.{numbers}
use Rattle.wh_plan.proofs.order.order.Given as goal

abbrev pub invariant-loop-turn : goal.invariant-loop-turn
invariant-loop-turn l = l.taken ≡ iterate l._turn (take_next (is_ready l.spec) (numbers (length l.spec.relations))) []
