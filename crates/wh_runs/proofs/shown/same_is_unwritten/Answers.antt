use Rattle.wh_runs.specs.Disks.{form}
use Rattle.wh_runs.proofs.Showing.{same_unwritten}
use Rattle.wh_runs.proofs.shown.same_is_unwritten.Goals as goal

pub returns : goal.returns
returns g c = same_unwritten (form g.D.Disk) g.met.D.Disk.only_now
