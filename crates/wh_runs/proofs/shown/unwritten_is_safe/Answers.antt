use Rattle.wh_runs.specs.Disks.{form}
use Rattle.wh_runs.proofs.Showing.{unwritten_safe}
use Rattle.wh_runs.proofs.shown.unwritten_is_safe.Goals as goal

pub returns : goal.returns
returns g c = unwritten_safe (form g.D.Disk) g.met.D.Disk.content_is_left
