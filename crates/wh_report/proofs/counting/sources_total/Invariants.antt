use Rattle.std.proofs.Common.{◌≡◌, ◌*◌, ◌≤◌}
use Rattle.wh_report.specs.Report.{rows_at, total}
use Rattle.wh_report.proofs.counting.sources_total.Given as goal

abbrev pub invariant-loop-number : goal.invariant-loop-number
invariant-loop-number l = record {
  counted : l.count ≡ total (rows_at l.relations) l.number;
  bounded : l.count ≤ l.number * 18446744073709551616;
}
