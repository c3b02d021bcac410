use Rattle.wh_runs.specs.Disks.{form}
use Rattle.wh_runs.proofs.Refused.{silent_change}
use Rattle.wh_runs.proofs.rows.silent_change_is_refused.Goals as goal

pub returns : goal.returns
returns g c = silent_change g.row.F.Denot (form g.D.Disk)
