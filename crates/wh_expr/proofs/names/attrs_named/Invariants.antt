use Rattle.std.proofs.Common.{◌≡◌, take}
use Rattle.wh_expr.specs.Typing.{attrs_named}
use Rattle.wh_expr.proofs.names.attrs_named.Given as goal

abbrev pub invariant-loop-name : goal.invariant-loop-name
invariant-loop-name l = l.named ≡ attrs_named l.attrs (take l.name-index l.names)
