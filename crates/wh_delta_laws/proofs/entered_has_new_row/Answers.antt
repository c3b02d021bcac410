use Rattle.wh_base.specs.RowSet.{has}
use Rattle.wh_schema.specs.Warehouse.{view_table}
use Rattle.wh_laws.proofs.Equality.{has_decides, when_false}
use Rattle.wh_delta_laws.proofs.Deltas.{new_row}
use Rattle.wh_delta_laws.proofs.entered_has_new_row.Goals as goal

pub returns : goal.returns
returns c = λ spec wf s t st j l w h n.
    let old = (view_table spec s j).rows in
    new_row spec wf s t st j l w ((has_decides (view_table spec t j).rows w).0 h) (when_false (has old w) (has_decides old w) n)
