use Rattle.std.proofs.Common.{◌≡◌, ◌++◌, take}
use Rattle.std.specs.List.{flat_map}
use Rattle.wh_base.specs.Csv.{csv_field}
use Rattle.wh_base.specs.Lines.{comma}
use Rattle.wh_base.proofs.lines.put_more_values.Given as goal

abbrev pub invariant-loop-value : goal.invariant-loop-value
invariant-loop-value l = l.out.bytes ≡ l.initial.out.bytes ++ flat_map (λ value. comma ++ csv_field value) (take l.value-index l.values)
