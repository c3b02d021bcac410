use Rattle.std.proofs.Common.{◌≡◌, take, not}
use Rattle.std.specs.Prelude.{filter}
use Rattle.wh_base.specs.Columns.{is_in, names_of}
use Rattle.wh_schema.proofs.adding.further_attrs.Given as goal

abbrev pub invariant-loop-attr : goal.invariant-loop-attr
invariant-loop-attr l = l.attrs ≡ filter (λ a. not (is_in (names_of l.left) a.name)) (take l.attr-index l.right)
