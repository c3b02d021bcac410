use Rattle.std.proofs.Common.{◌≡◌, take}
use Rattle.wh_csv.specs.Dump.{column_kinds}
use Rattle.wh_csv.proofs.dump.column_kinds.Given as goal

abbrev pub invariant-loop-name : goal.invariant-loop-name
invariant-loop-name l = l.kinds.items ≡ column_kinds l.attrs (take l.name-index l.header)
