use Rattle.std.proofs.Common.{◌≡◌, take}
use Rattle.wh_expr.specs.Typing.{renamed_attrs}
use Rattle.wh_expr.proofs.names.renamed_attrs.Given as goal

abbrev pub invariant-loop-attr : goal.invariant-loop-attr
invariant-loop-attr l = l.renamed ≡ renamed_attrs l.pairs (take l.attr-index l.attrs)
