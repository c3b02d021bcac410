use Rattle.std.proofs.Common.{length}
use Rattle.wh_store.proofs.TableSteps.{AreChangedTo}
use Rattle.wh_store.proofs.changes.change_each.Given as goal

-- the first tables are changed, and the others are as they were
abbrev pub invariant-loop-table : goal.invariant-loop-table
invariant-loop-table l =
    record {
      can : (goal.iterator-loop-table).can_next l.table-iterator;
      finite : (goal.iterator-loop-table).is_finite l.table-iterator;
      changed : AreChangedTo (length l.yielded) l.initial.tables.items l.fn.deltas l.tables.items;
    }
