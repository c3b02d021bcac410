use Rattle.std.proofs.Common.{◌≡◌, ◌++◌}
use Rattle.std.specs.List.{flat_map}
use Rattle.wh_answer.specs.Answer.{rows_of}
use Rattle.wh_schema.specs.Warehouse.{numbers}
use Rattle.wh_report.specs.Report.{rows_at, view_line}
use Rattle.wh_report.proofs.reporting.put_views.Given as goal

abbrev pub invariant-loop-number : goal.invariant-loop-number
invariant-loop-number l = l.text.bytes ≡ l.initial.text.bytes ++ flat_map (view_line l.spec (rows_at (rows_of l.tables))) (numbers l.number)
