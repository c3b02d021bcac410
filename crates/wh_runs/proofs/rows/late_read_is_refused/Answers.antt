use Rattle.wh_runs.specs.Disks.{form}
use Rattle.wh_runs.proofs.Refused.{late_read}
use Rattle.wh_runs.proofs.rows.late_read_is_refused.Goals as goal

pub returns : goal.returns
returns g c = late_read g.row.F.Denot (form g.D.Disk)
