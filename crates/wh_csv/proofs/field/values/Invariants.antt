use Rattle.std.proofs.Common.{◌≡◌, ◌++◌, drop}
use Rattle.csv.specs.Records.{fields_of}
use Rattle.wh_csv.specs.Fields.{values}
use Rattle.wh_csv.proofs.field.values.Given as goal

abbrev pub invariant-loop-kind : goal.invariant-loop-kind
invariant-loop-kind l = values l.kinds (drop l.skipped (fields_of l.line)) ≡ l.values.items ++ values (drop l.kind-index l.kinds) (drop l.place (fields_of l.line))
