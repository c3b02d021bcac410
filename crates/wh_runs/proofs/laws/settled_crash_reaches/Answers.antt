use Rattle.wh_runs.specs.Disks.{form}
use Rattle.wh_runs.proofs.OneRun.{crash_reaches, settled}
use Rattle.wh_runs.proofs.laws.settled_crash_reaches.Goals as goal

pub returns : goal.returns
returns g c = λ command held start seen finish rests run d pair. settled (form g.D.Disk) g.C.Commands.program command held start seen rests d (crash_reaches (form g.D.Disk) g.C.Commands.program command held start seen g.C.Commands.sound finish run d pair)
