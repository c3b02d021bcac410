use Rattle.std.proofs.Common.{◌≡◌, take}
use Rattle.wh_expr.specs.Typing.{joined_attrs}
use Rattle.wh_expr.proofs.names.joined_attrs.Given as goal

abbrev pub invariant-loop-attr : goal.invariant-loop-attr
invariant-loop-attr l = l.joined ≡ joined_attrs l.left (take l.attr-index l.right)
