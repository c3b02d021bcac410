use Rattle.wh_runs.specs.Disks.{form}
use Rattle.wh_runs.proofs.OneRun.{crash_reaches}
use Rattle.wh_runs.proofs.laws.crash_reaches.Goals as goal

pub returns : goal.returns
returns g c = λ command held start seen finish run d pair. crash_reaches (form g.D.Disk) g.C.Commands.program command held start seen g.C.Commands.sound finish run d pair
