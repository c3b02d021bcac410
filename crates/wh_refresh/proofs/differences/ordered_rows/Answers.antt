use Rattle.std.proofs.Common.{◌≡◌, ◌∙◌, rules, List, subst, sym}
use Rattle.std.specs.Prelude.{IfOk}
use Rattle.wh_base.specs.RowSet.{in_order}
use Rattle.wh_base.proofs.InOrder.{in_order-same}
use Rattle.wh_schema.specs.Warehouse.{Row}
use Rattle.wh_refresh.proofs.OwnImage.{no_rows}
use Rattle.wh_refresh.proofs.differences.ordered_rows.Goals as goal

pub returns-then-len-eq0-clause-rows : goal.returns-then-len-eq0-clause-rows
returns-then-len-eq0-clause-rows g c = search (rules, no_rows)

pub returns-clause-rows : goal.returns-clause-rows
returns-clause-rows g c =
    subst (λ (rows : List Row). IfOk c.sort_rows.result (λ found. found ≡ rows)) (in_order-same c.in_ok-scan.field-0 c.args.table.now.rows c.in_ok-scan.ensures.rows.same) c.sort_rows.ensures
