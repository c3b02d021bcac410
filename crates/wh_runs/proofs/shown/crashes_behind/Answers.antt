use Rattle.wh_runs.specs.Disks.{form}
use Rattle.wh_runs.specs.Ends.{IsReached}
use Rattle.wh_runs.specs.Program.{expected}
use Rattle.wh_runs.proofs.Showing.{behind}
use Rattle.wh_runs.proofs.shown.crashes_behind.Goals as goal

pub returns : goal.returns
returns g c = λ command held start before mid after told opened writes d pair. behind (form g.D.Disk) g.met.D.Disk.content_is_left (g.C.Commands.program.format.active start) start before mid after
    (IsReached g.C.Commands.program.format.meaning (expected g.C.Commands.program command held start)) told opened writes d pair
