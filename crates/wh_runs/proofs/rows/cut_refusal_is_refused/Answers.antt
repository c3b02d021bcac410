use Rattle.wh_runs.specs.Disks.{form}
use Rattle.wh_runs.proofs.Refused.{cut_refusal}
use Rattle.wh_runs.proofs.rows.cut_refusal_is_refused.Goals as goal

pub returns : goal.returns
returns g c = cut_refusal g.row.F.Denot (form g.D.Disk)
