use Rattle.std.proofs.Common.{◌≡◌, take}
use Rattle.wh_base.specs.Columns.{shared}
use Rattle.wh_base.proofs.columns.shared.Given as goal

abbrev pub invariant-loop-name : goal.invariant-loop-name
invariant-loop-name l = l.names ≡ shared l.left (take l.name-index l.right)
