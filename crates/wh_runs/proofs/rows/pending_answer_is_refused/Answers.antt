use Rattle.wh_runs.specs.Disks.{form}
use Rattle.wh_runs.proofs.Refused.{pending_answer}
use Rattle.wh_runs.proofs.rows.pending_answer_is_refused.Goals as goal

pub returns : goal.returns
returns g c = pending_answer g.row.F.Denot (form g.D.Disk)
