use Rattle.std.proofs.Common.{◌≡◌, map, take}
use Rattle.csv.specs.Records.{fields_of}
use Rattle.wh_csv.specs.Fields.{field_at, field_value}
use Rattle.wh_csv.proofs.dump.row.Given as goal

abbrev pub invariant-loop-source : goal.invariant-loop-source
invariant-loop-source l = l.values.items ≡ map (λ s. field_value s.kind (field_at (fields_of l.line) s.place)) (take l.source-index l.sources)
