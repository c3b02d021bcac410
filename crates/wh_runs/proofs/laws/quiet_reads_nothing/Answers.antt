use Rattle.wh_runs.specs.Disks.{form}
use Rattle.wh_runs.proofs.OneRun.{quiet}
use Rattle.wh_runs.proofs.laws.quiet_reads_nothing.Goals as goal

pub returns : goal.returns
returns g c = λ command held start seen name none run. quiet (form g.D.Disk) g.C.Commands.program command held start seen g.C.Commands.sound name none run
