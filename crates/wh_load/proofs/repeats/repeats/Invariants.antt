use Rattle.std.proofs.Common.{◌≡◌, List, map, take}
use Rattle.indexmap.specs.IndexSet.{contains}
use Rattle.wh_base.specs.declared.value.Value.{Value}
use Rattle.wh_base.specs.Columns.{picked}
use Rattle.wh_base.specs.RowSet.{has}
use Rattle.wh_base.specs.Value.{row_eq}
use Rattle.wh_load.specs.Repeats.{comes_twice}
use Rattle.wh_load.proofs.repeats.repeats.Given as goal

abbrev pub invariant-loop-row : goal.invariant-loop-row
invariant-loop-row l = record {
  held : (q : List Value) → contains row_eq l.seen q ≡ has (map (picked l.places) (take l.row-index l.rows)) q;
  repeated : (q : List Value) → has l.again q ≡ comes_twice (map (picked l.places) (take l.row-index l.rows)) q;
}
