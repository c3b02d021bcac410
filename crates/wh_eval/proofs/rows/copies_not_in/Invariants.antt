use Rattle.std.proofs.Common.{◌≡◌, not, filter, take}
use Rattle.indexmap.specs.IndexSet.{contains}
use Rattle.wh_base.specs.Value.{row_eq}
use Rattle.wh_eval.proofs.rows.copies_not_in.Given as goal

abbrev pub invariant-loop-row : goal.invariant-loop-row
invariant-loop-row l = l.kept ≡ filter (λ r. not (contains row_eq l.gone r)) (take l.row-index l.rows)
