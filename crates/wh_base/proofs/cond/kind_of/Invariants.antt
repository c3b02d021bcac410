use Rattle.std.proofs.Common.{◌≡◌, drop}
use Rattle.wh_base.specs.Cond.{kind_of}
use Rattle.wh_base.proofs.cond.kind_of.Given as goal

abbrev pub invariant-loop-attr : goal.invariant-loop-attr
invariant-loop-attr l = kind_of l.name l.attrs ≡ kind_of l.name (drop l.attr-index l.attrs)
