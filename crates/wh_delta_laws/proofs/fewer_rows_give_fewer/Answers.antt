use Rattle.std.proofs.Common.{[], get_or, set}
use Rattle.wh_schema.specs.Warehouse.{view_table}
use Rattle.wh_delta_laws.proofs.Deltas.{among_in, among_from, from_fewer}
use Rattle.wh_delta_laws.proofs.fewer_rows_give_fewer.Goals as goal

pub returns : goal.returns
returns c = λ spec wf t st j l i m rows sub.
    among_in (view_table spec (set t i rows) j).rows (view_table spec t j).rows
    (from_fewer spec wf t st j l i m rows (among_from rows (get_or t i []) sub))
