use Rattle.wh_runs.specs.Disks.{form}
use Rattle.wh_runs.proofs.Showing.{unbegun_ends}
use Rattle.wh_runs.proofs.shown.unbegun_ends.Goals as goal

pub returns : goal.returns
returns g c = λ command held start seen finish apart unbegun may. unbegun_ends (form g.D.Disk) g.C.Commands.program command held start seen apart unbegun finish may
