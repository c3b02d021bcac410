use Rattle.std.proofs.Common.{◌≡◌, map, nat_eq, Some, None, [], if◌then◌else◌}
use Rattle.wh_schema.specs.Warehouse.{numbers}
use Rattle.wh_schema.proofs.cycle.empty_paths.Given as goal

abbrev pub invariant-loop-number : goal.invariant-loop-number
invariant-loop-number l = l.paths ≡ map (λ a. if nat_eq a l.end then Some [] else None) (numbers l.number)
