use Rattle.std.proofs.Common.{◌≡◌, ◌+◌, ◌++◌, length}
use Rattle.std.specs.List.{flat_map}
use Rattle.wh_answer.specs.Answer.{rows_of}
use Rattle.wh_schema.specs.Warehouse.{numbers}
use Rattle.wh_report.specs.Report.{complement_line, rows_at}
use Rattle.wh_report.proofs.reporting.put_complements.Given as goal

abbrev pub invariant-loop-rel : goal.invariant-loop-rel
invariant-loop-rel l = l.text.bytes ≡ l.initial.text.bytes ++ flat_map (complement_line l.plan.spec (λ r. rows_at (rows_of l.tables) (length l.plan.spec.views + r))) (numbers l.rel)
