use Rattle.std.proofs.Common.{◌≡◌, take}
use Rattle.wh_base.specs.Value.{kinds}
use Rattle.wh_csv.proofs.change.kinds_in.Given as goal

abbrev pub invariant-loop-attr : goal.invariant-loop-attr
invariant-loop-attr l = l.kinds ≡ kinds (take l.attr-index l.attrs)
