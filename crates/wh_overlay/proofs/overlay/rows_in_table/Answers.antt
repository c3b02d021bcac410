use Rattle.std.proofs.Common.{subst}
use Rattle.wh_base.specs.Tables.{matching}
use Rattle.wh_base.specs.RowSet.{IsSetOf}
use Rattle.wh_eval.specs.Stored.{rows_in}
use Rattle.wh_overlay.proofs.TableLemmas.{no_rows}
use Rattle.wh_overlay.proofs.overlay.rows_in_table.Goals as goal

pub returns-in-None-clause-rows : goal.returns-in-None-clause-rows
returns-in-None-clause-rows g c =
    subst (λ o. IsSetOf c.new.result (matching c.args.columns.now c.args.names.now c.args.vals.now (rows_in o))) c.in-None.ensures.value
    (no_rows c.new.result c.new.ensures)
