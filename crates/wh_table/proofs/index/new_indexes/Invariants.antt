use Rattle.std.proofs.Common.{◌≡◌, []}
use Rattle.wh_table.specs.Slots.{AreIndexesOf, column_sets}
use Rattle.wh_table.proofs.index.new_indexes.Given as goal

abbrev pub invariant-loop-places : goal.invariant-loop-places
invariant-loop-places l = record {
  sets : column_sets l.indexes.items ≡ l.yielded;
  empty : AreIndexesOf [] 0 l.indexes.items;
}
