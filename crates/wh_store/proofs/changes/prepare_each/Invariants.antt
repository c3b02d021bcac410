use Rattle.std.proofs.Common.{◌≡◌, ℕ, ◌<◌, ◌≤◌, length, take, get_or}
use Rattle.wh_store.specs.Commit.{AreKept}
use Rattle.wh_store.specs.Image.{no_delta}
use Rattle.wh_store.specs.Warehouse.{table_at}
use Rattle.wh_store.proofs.changes.prepare_each.Given as goal

-- the first tables are prepared, in their order
abbrev pub invariant-loop-table : goal.invariant-loop-table
invariant-loop-table l =
    record {
      can : (goal.iterator-loop-table).can_next l.table-iterator;
      finite : (goal.iterator-loop-table).is_finite l.table-iterator;
      prepared : l.prepared.items ≡ take (length l.yielded) l.fn.deltas;
      kept : AreKept l.initial.tables.items l.tables.items;
      room : (k : ℕ) → k < length l.yielded → length (get_or l.fn.deltas k no_delta).inserted ≤ (table_at l.tables.items k).spare;
    }
