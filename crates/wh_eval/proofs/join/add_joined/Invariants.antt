use Rattle.std.proofs.Common.{◌≡◌, ◌++◌, map, take}
use Rattle.wh_eval.proofs.join.add_joined.Given as goal

abbrev pub invariant-loop-rest : goal.invariant-loop-rest
invariant-loop-rest l = l.rows ≡ l.fn.rows ++ map (λ rest. l.fn.row ++ rest) (take l.rest-index l.others)
