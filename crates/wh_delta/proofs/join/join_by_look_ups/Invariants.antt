use Rattle.std.proofs.Common.{◌≡◌, ◌≤◌, take}
use Rattle.std.specs.List.{flat_map}
use Rattle.wh_base.specs.RowSet.{SameRows}
use Rattle.wh_base.specs.Tables.{joined}
use Rattle.wh_delta.proofs.join.join_by_look_ups.Given as goal

abbrev pub invariant-loop-row : goal.invariant-loop-row
invariant-loop-row g l = record {
  probes : l.fn.steps.probes ≤ l.steps.probes;
  scans : l.steps.scans ≡ l.fn.steps.scans;
  rows : SameRows l.rows (flat_map (joined l.left.columns l.columns (g.B.Base.rows_at l.base l.n)) (take l.row-index l.row-items));
}
