use Rattle.std.proofs.Common.{◌≡◌, List, fold, take}
use Rattle.indexmap.specs.IndexSet.{contains}
use Rattle.wh_base.specs.declared.value.Value.{Value}
use Rattle.wh_base.specs.RowSet.{has}
use Rattle.wh_base.specs.Value.{row_eq}
use Rattle.wh_check.proofs.NetLemmas.{said}
use Rattle.wh_check.proofs.net.rows_after.Given as goal

abbrev pub invariant-loop-line : goal.invariant-loop-line
invariant-loop-line l = (q : List Value) → contains row_eq l.set q ≡ fold (said l.relation q) (has l.rows q) (take l.line-index l.lines)
