use Rattle.std.proofs.Common.{◌≡◌, ℕ, ◌<◌, ◌≤◌, [], length, get_or}
use Rattle.wh_base.specs.RowSet.{AreDistinct, in_order}
use Rattle.wh_fit.specs.Differences.{difference}
use Rattle.wh_store.specs.Image.{no_delta}
use Rattle.wh_store.specs.Warehouse.{table_at}
use Rattle.wh_refresh.proofs.differences.table_differences.Given as goal

-- so far there is the difference of each table
abbrev pub invariant-loop-k : goal.invariant-loop-k
invariant-loop-k g l = record {
  count : length l.deltas ≡ l.k;
  each : (j : ℕ) → j < l.k → get_or l.deltas j no_delta ≡ difference (in_order (table_at l.tables j).rows) (get_or l.after j []);
  distinct : (j : ℕ) → j < l.k → AreDistinct (table_at l.tables j).rows;
  probes : l.initial.steps.probes ≤ l.steps.probes;
  scans : l.initial.steps.scans ≤ l.steps.scans;
}
