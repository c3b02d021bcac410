use Rattle.std.proofs.Common.{◌≡◌, ◌++◌, map, take, drop}
use Rattle.wh_table.specs.Slots.{linked}
use Rattle.wh_table.proofs.index.link_all.Given as goal

abbrev pub invariant-loop-index : goal.invariant-loop-index
invariant-loop-index l = l.indexes ≡ map (linked l.row) (take l.index-index l.initial.indexes) ++ drop l.index-index l.initial.indexes
