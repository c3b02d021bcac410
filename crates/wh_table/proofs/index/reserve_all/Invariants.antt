use Rattle.std.proofs.Common.{◌≡◌, ◌<◌, ◌≤◌, ℕ, List, get_or}
use Rattle.wh_base.specs.declared.value.Value.{Value}
use Rattle.wh_table.specs.declared.index.Index.{Index}
use Rattle.wh_table.specs.Slots.{AreIndexesOf, column_sets}
use Rattle.wh_table.proofs.index.reserve_all.Given as goal

abbrev pub invariant-loop-index : goal.invariant-loop-index
invariant-loop-index l = record {
  sets : column_sets l.indexes ≡ column_sets l.initial.indexes;
  kept : (rows : List (List Value)) (spare : ℕ) → AreIndexesOf rows spare l.initial.indexes → AreIndexesOf rows spare l.indexes;
  room : (k : ℕ) (d : Index) → k < l.index-index → l.additional ≤ (get_or l.indexes k d).chains.spare;
}
