use Rattle.std.proofs.Common.{◌≡◌, ◌+◌, ◌++◌, length}
use Rattle.wh_table.proofs.table.insert_all.Given as goal

abbrev pub invariant-loop-row : goal.invariant-loop-row
invariant-loop-row l = record {
  rows : l.slots.rows ≡ l.fn.slots.rows ++ l.yielded;
  spare : l.slots.spare + length l.yielded ≡ l.fn.slots.spare;
  indexes : l.slots.indexes ≡ l.fn.slots.indexes;
}
