use Rattle.std.proofs.Common.{◌≡◌, drop}
use Rattle.wh_base.specs.Columns.{is_in, names_of}
use Rattle.wh_expr.proofs.names.is_attr.Given as goal

abbrev pub invariant-loop-attr : goal.invariant-loop-attr
invariant-loop-attr l = is_in (names_of l.attrs) l.name ≡ is_in (names_of (drop l.attr-index l.attrs)) l.name
