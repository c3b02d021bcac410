use Rattle.std.proofs.Common.{◌≡◌, ◌++◌, map, take, drop}
use Rattle.wh_table.specs.Slots.{relinked, rows_of}
use Rattle.wh_table.proofs.index.relink_all.Given as goal

abbrev pub invariant-loop-index : goal.invariant-loop-index
invariant-loop-index l = l.indexes ≡ map (relinked (rows_of l.slots)) (take l.index-index l.initial.indexes) ++ drop l.index-index l.initial.indexes
