use Rattle.std.proofs.Common.{◌≡◌, drop}
use Rattle.wh_csv.specs.Dump.{column_kind}
use Rattle.wh_csv.proofs.dump.kind_in.Given as goal

abbrev pub invariant-loop-attr : goal.invariant-loop-attr
invariant-loop-attr l = column_kind l.attrs l.name ≡ column_kind (drop l.attr-index l.attrs) l.name
