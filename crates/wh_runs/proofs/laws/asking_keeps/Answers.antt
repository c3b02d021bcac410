use Rattle.wh_runs.specs.Disks.{form}
use Rattle.wh_runs.proofs.OneRun.{ends_of, asking}
use Rattle.wh_runs.proofs.laws.asking_keeps.Goals as goal

pub returns : goal.returns
returns g c = λ command held start seen finish run none no_fault. asking (form g.D.Disk) g.C.Commands.program command held start seen g.met.D.Disk.content_is_left run.disks_told none finish no_fault (ends_of (form g.D.Disk) g.C.Commands.program command held start seen finish run)
