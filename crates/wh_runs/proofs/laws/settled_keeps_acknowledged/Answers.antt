use Rattle.wh_runs.specs.Disks.{form}
use Rattle.wh_runs.proofs.OneRun.{ends_of, acknowledged, settled_acknowledged}
use Rattle.wh_runs.proofs.laws.settled_keeps_acknowledged.Goals as goal

pub returns : goal.returns
returns g c = λ command held start seen finish apart rests run d left. settled_acknowledged (form g.D.Disk) g.C.Commands.program command held start seen rests d (acknowledged (form g.D.Disk) g.C.Commands.program command held start seen g.C.Commands.sound apart run.premise_met finish (ends_of (form g.D.Disk) g.C.Commands.program command held start seen finish run) d left)
