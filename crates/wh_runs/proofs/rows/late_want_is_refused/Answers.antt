use Rattle.wh_runs.specs.Disks.{form}
use Rattle.wh_runs.proofs.Refused.{late_want}
use Rattle.wh_runs.proofs.rows.late_want_is_refused.Goals as goal

pub returns : goal.returns
returns g c = late_want g.row.F.Denot (form g.D.Disk)
