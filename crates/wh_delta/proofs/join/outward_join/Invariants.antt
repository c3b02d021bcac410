use Rattle.std.proofs.Common.{◌≡◌, ◌≤◌, take}
use Rattle.wh_delta.specs.Join.{joined_with, SharesColumns}
use Rattle.wh_eval.specs.Relation.{table_of}
use Rattle.wh_expr.specs.Meaning.{tables}
use Rattle.wh_expr.specs.SameTable.{SameTable}
use Rattle.wh_delta.proofs.join.outward_join.Given as goal

abbrev pub invariant-loop-n : goal.invariant-loop-n
invariant-loop-n g l =
    let table = tables (g.B.Base.heads_of l.base) (g.B.Base.rows_at l.base) in
    record {
      probes : l.fn.steps.probes ≤ l.steps.probes;
      rise : l.fn.steps.scans ≤ l.steps.scans;
      scans : SharesColumns (table_of l.fn.first) table l.numbers → l.steps.scans ≡ l.fn.steps.scans;
      rows : SameTable (table_of l.joined) (joined_with (table_of l.fn.first) table (take l.n-index l.numbers));
    }
