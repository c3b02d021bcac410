use Rattle.std.proofs.Common.{◌≡◌, ◌++◌, take}
use Rattle.wh_eval.proofs.join.joined_row.Given as goal

abbrev pub invariant-loop-value : goal.invariant-loop-value
invariant-loop-value l = l.values ≡ l.fn.row ++ take l.value-index l.value-items
