use Rattle.std.proofs.Common.{◌≡◌, ◌≤◌, map}
use Rattle.wh_base.specs.RowSet.{in_order}
use Rattle.wh_schema.specs.Warehouse.{numbers, view_table}
use Rattle.wh_load.proofs.views.view_lists.Given as goal

abbrev pub invariant-loop-view : goal.invariant-loop-view
invariant-loop-view g l = record {
  tables : l.tables ≡ map (λ j. in_order (view_table l.plan.spec l.s j).rows) (numbers l.view);
  probes : l.initial.steps.probes ≤ l.steps.probes;
  scans : l.initial.steps.scans ≤ l.steps.scans;
}
