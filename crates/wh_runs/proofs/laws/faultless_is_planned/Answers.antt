use Rattle.wh_runs.specs.Disks.{form}
use Rattle.wh_runs.proofs.OneRun.{faultless}
use Rattle.wh_runs.proofs.laws.faultless_is_planned.Goals as goal

pub returns : goal.returns
returns g c = λ command held start seen finish run none. faultless (form g.D.Disk) g.C.Commands.program command held start seen finish run none
