use Rattle.wh_runs.specs.Disks.{form}
use Rattle.wh_runs.proofs.Histories.{headline}
use Rattle.wh_runs.proofs.laws.headline.Goals as goal

pub returns : goal.returns
returns g c = headline (form g.D.Disk) g.met.D.Disk.content_is_left g.C.Commands.program g.C.Commands.sound
