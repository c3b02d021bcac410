use Rattle.wh_schema.specs.Warehouse.{view_table}
use Rattle.wh_delta_laws.specs.Deltas.{candidates}
use Rattle.wh_delta_laws.proofs.Deltas.{among_in, candidate_from}
use Rattle.wh_delta_laws.proofs.candidates_are_rows.Goals as goal

pub returns : goal.returns
returns c = λ spec wf s t st j l. among_in (candidates spec s t j) (view_table spec t j).rows (candidate_from spec wf s t st j l)
