use Rattle.std.proofs.Common.{◌≡◌, ◌++◌}
use Rattle.std.specs.List.{flat_map}
use Rattle.wh_schema.specs.Warehouse.{numbers}
use Rattle.wh_report.specs.Report.{relation_line, rows_at}
use Rattle.wh_report.proofs.reporting.put_relations.Given as goal

abbrev pub invariant-loop-number : goal.invariant-loop-number
invariant-loop-number l = l.text.bytes ≡ l.initial.text.bytes ++ flat_map (relation_line l.spec (rows_at l.relations)) (numbers l.number)
