use Rattle.wh_runs.specs.Disks.{form}
use Rattle.wh_runs.proofs.Refused.{early_emptying}
use Rattle.wh_runs.proofs.rows.early_emptying_is_refused.Goals as goal

pub returns : goal.returns
returns g c = early_emptying g.row.F.Denot (form g.D.Disk) g.met.D.Disk.content_is_left
