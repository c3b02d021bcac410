use Rattle.std.proofs.Common.{◌≡◌, take}
use Rattle.wh_base.specs.RowSet.{AreDistinct}
use Rattle.wh_base.specs.Tables.{without}
use Rattle.wh_table.proofs.table.delete_all.Given as goal

abbrev pub invariant-loop-row : goal.invariant-loop-row
invariant-loop-row l = record {
  distinct : AreDistinct l.slots.rows;
  rows : l.slots.rows ≡ without l.fn.slots.rows (take l.row-index l.deleted);
  spare : l.slots.spare ≡ l.fn.slots.spare;
  indexes : l.slots.indexes ≡ l.fn.slots.indexes;
}
