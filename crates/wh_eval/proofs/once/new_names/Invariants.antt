use Rattle.std.proofs.Common.{◌≡◌, take, map}
use Rattle.wh_expr.specs.Rename.{new_name}
use Rattle.wh_eval.proofs.once.new_names.Given as goal

abbrev pub invariant-loop-name : goal.invariant-loop-name
invariant-loop-name l = l.renamed ≡ map (new_name l.pairs) (take l.name-index l.names)
