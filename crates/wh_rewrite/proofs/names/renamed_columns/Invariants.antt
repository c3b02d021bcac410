use Rattle.std.proofs.Common.{◌≡◌, map, take}
use Rattle.wh_expr.specs.Rename.{new_name}
use Rattle.wh_rewrite.proofs.names.renamed_columns.Given as goal

abbrev pub invariant-loop-column : goal.invariant-loop-column
invariant-loop-column l = l.renamed ≡ map (new_name l.pairs) (take l.column-index l.columns)
