use Rattle.std.proofs.Common.{◌≡◌, take}
use Rattle.wh_base.specs.Columns.{others}
use Rattle.wh_base.proofs.columns.others.Given as goal

abbrev pub invariant-loop-name : goal.invariant-loop-name
invariant-loop-name l = l.names ≡ others l.left (take l.name-index l.right)
