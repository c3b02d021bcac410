use Rattle.std.proofs.Common.{◌≡◌, drop}
use Rattle.csv.specs.Records.{fields_of}
use Rattle.wh_csv.specs.Fields.{fields_fault}
use Rattle.wh_csv.proofs.field.fields_fault.Given as goal

abbrev pub invariant-loop-kind : goal.invariant-loop-kind
invariant-loop-kind l = fields_fault l.kinds (drop l.skipped (fields_of l.line)) ≡ fields_fault (drop l.kind-index l.kinds) (drop l.place (fields_of l.line))
