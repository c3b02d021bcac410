use Rattle.wh_runs.specs.Disks.{form}
use Rattle.wh_runs.proofs.Following.{whole_left}
use Rattle.wh_runs.proofs.shown.whole_is_left.Goals as goal

pub returns : goal.returns
returns g c = λ command held start seen ended apart ends. whole_left (form g.D.Disk) g.C.Commands.program command held start seen ended apart ends
