use Rattle.std.proofs.Common.{◌≡◌, ◌-◌, length}
use Rattle.std.specs.List.{find, range_with_len}
use Rattle.wh_schema.specs.Reconstruction.{is_ready}
use Rattle.wh_schema.specs.Warehouse.{numbers}
use Rattle.wh_plan.proofs.order.first_ready.Given as goal

abbrev pub invariant-loop-relation : goal.invariant-loop-relation
invariant-loop-relation l =
    let n = length l.spec.relations in
    find (is_ready l.spec l.taken) (numbers n) ≡ find (is_ready l.spec l.taken) (range_with_len l.relation (n - l.relation))
