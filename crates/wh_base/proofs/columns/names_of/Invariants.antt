use Rattle.std.proofs.Common.{◌≡◌, take}
use Rattle.wh_base.specs.Columns.{names_of}
use Rattle.wh_base.proofs.columns.names_of.Given as goal

abbrev pub invariant-loop-attr : goal.invariant-loop-attr
invariant-loop-attr l = l.names ≡ names_of (take l.attr-index l.attrs)
