use Rattle.std.proofs.Common.{Contains}
use Rattle.wh_table.specs.Table.{AreAmong}
use Rattle.wh_table.proofs.index.index_within.Given as goal

abbrev pub invariant-loop-index : goal.invariant-loop-index
invariant-loop-index l = record {
  one_of : Contains l.indexes l.chosen;
  among : AreAmong l.chosen.places l.columns;
}
