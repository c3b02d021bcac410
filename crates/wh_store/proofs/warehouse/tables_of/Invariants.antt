use Rattle.std.proofs.Common.{◌≡◌, ℕ, ◌<◌, [], get_or, length}
use Rattle.wh_base.specs.Heads.{attrs_at}
use Rattle.wh_store.specs.Opening.{IsTableOf}
use Rattle.wh_store.specs.Warehouse.{table_at}
use Rattle.wh_store.proofs.warehouse.tables_of.Given as goal

abbrev pub invariant-loop-table_rows : goal.invariant-loop-table_rows
invariant-loop-table_rows l = record {
  count : length l.tables ≡ length l.yielded;
  each : (k : ℕ) → k < length l.yielded → IsTableOf (length (attrs_at l.stored k)) (get_or l.plan.indexes k []) (get_or l.fn.rows k []) (table_at l.tables k);
}
