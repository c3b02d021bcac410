use Rattle.std.proofs.Common.{◌≡◌, drop}
use Rattle.wh_expr.specs.Typing.{are_distinct}
use Rattle.wh_expr.proofs.names.are_distinct.Given as goal

abbrev pub invariant-loop-place : goal.invariant-loop-place
invariant-loop-place l = are_distinct l.names ≡ are_distinct (drop l.place l.names)
