use Rattle.std.proofs.Common.{◌≡◌, ◌++◌, take}
use Rattle.wh_base.proofs.columns.append_names.Given as goal

abbrev pub invariant-loop-name : goal.invariant-loop-name
invariant-loop-name l = l.names ≡ take l.name-index l.left

abbrev pub invariant-loop-name-2 : goal.invariant-loop-name-2
invariant-loop-name-2 l = l.names ≡ l.left ++ take l.name-index l.right
