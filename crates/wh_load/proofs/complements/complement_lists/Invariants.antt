use Rattle.std.proofs.Common.{◌≡◌, ◌≤◌, map}
use Rattle.wh_base.specs.RowSet.{in_order}
use Rattle.wh_schema.specs.Warehouse.{numbers, sources_of, complement}
use Rattle.wh_load.proofs.complements.complement_lists.Given as goal

abbrev pub invariant-loop-relation : goal.invariant-loop-relation
invariant-loop-relation g l = record {
  tables : l.tables ≡ map (λ r. in_order (complement l.plan.spec (sources_of l.plan.spec l.s) r)) (numbers l.relation);
  probes : l.initial.steps.probes ≤ l.steps.probes;
  scans : l.initial.steps.scans ≤ l.steps.scans;
}
