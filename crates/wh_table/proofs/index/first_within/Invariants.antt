use Rattle.std.proofs.Common.{◌<◌, ℕ, get_or}
use Rattle.wh_table.specs.declared.index.Index.{Index}
use Rattle.wh_table.specs.Table.{AreAmong}
use Rattle.wh_table.proofs.index.first_within.Given as goal

abbrev pub invariant-loop-index : goal.invariant-loop-index
invariant-loop-index l = (k : ℕ) (d : Index) → k < l.index-index → AreAmong (get_or l.indexes k d).places l.columns → ⊥
