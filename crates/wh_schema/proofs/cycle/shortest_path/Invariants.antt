use Rattle.std.proofs.Common.{◌≡◌, ◌-◌, get_or, slice_get, None, length}
use Rattle.std.specs.List.{filter_map, range_with_len}
use Rattle.wh_schema.specs.Cycles.{paths_to, shortest_path}
use Rattle.wh_schema.proofs.cycle.shortest_path.Given as goal

abbrev pub invariant-loop-length : goal.invariant-loop-length
invariant-loop-length l = record {
  so_far : l.paths ≡ paths_to l.spec l.end l.length;
  later : shortest_path l.spec l.start l.end
      ≡ slice_get (filter_map (λ k. get_or (paths_to l.spec l.end k) l.start None) (range_with_len l.length (length l.spec.relations - l.length))) 0;
}
