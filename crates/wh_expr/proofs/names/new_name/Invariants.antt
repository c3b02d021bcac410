use Rattle.std.proofs.Common.{◌≡◌, drop}
use Rattle.wh_expr.specs.Rename.{new_name}
use Rattle.wh_expr.proofs.names.new_name.Given as goal

abbrev pub invariant-loop-pair : goal.invariant-loop-pair
invariant-loop-pair l = new_name l.pairs l.name ≡ new_name (drop l.pair-index l.pairs) l.name
