use Rattle.std.proofs.Common.{[], get_or}
use Rattle.wh_delta_laws.proofs.Deltas.{among_from, row_by_row}
use Rattle.wh_delta_laws.proofs.view_goes_row_by_row.Goals as goal

pub returns : goal.returns
returns c = λ spec wf t st j l i m rows sub. row_by_row spec wf t st j l i m rows (among_from rows (get_or t i []) sub)
