use Rattle.std.proofs.Common.{◌≡◌, ◌+◌, ◌-◌}
use Rattle.std.specs.List.{range_with_len}
use Rattle.wh_schema.specs.Warehouse.{subsets}
use Rattle.wh_covers.proofs.subset.subsets.Given as goal

abbrev pub invariant-loop-done : goal.invariant-loop-done
invariant-loop-done l = l.sets.items ≡ subsets (range_with_len (l.n - l.done + 1) l.done)
