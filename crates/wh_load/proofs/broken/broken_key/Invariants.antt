use Rattle.std.proofs.Common.{◌≡◌, ◌+◌, map, drop, length}
use Rattle.wh_schema.specs.Constraints.{first_break, repeated_keys}
use Rattle.wh_schema.specs.Warehouse.{numbers}
use Rattle.wh_load.proofs.broken.broken_key.Given as goal

abbrev pub invariant-loop-relation : goal.invariant-loop-relation
invariant-loop-relation l =
    let all = map (repeated_keys l.spec l.s) (numbers (length l.spec.relations)) in
    first_break 1 all ≡ first_break (l.relation + 1) (drop l.relation all)
