use Rattle.std.proofs.Common.{◌≡◌, take}
use Rattle.wh_expr.specs.Typing.{old_names}
use Rattle.wh_expr.proofs.names.old_names.Given as goal

abbrev pub invariant-loop-pair : goal.invariant-loop-pair
invariant-loop-pair l = l.names ≡ old_names (take l.pair-index l.pairs)
