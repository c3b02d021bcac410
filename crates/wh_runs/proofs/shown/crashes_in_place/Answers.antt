use Rattle.wh_runs.specs.Disks.{form}
use Rattle.wh_runs.specs.Ends.{IsReached}
use Rattle.wh_runs.specs.Program.{expected}
use Rattle.wh_runs.proofs.Showing.{in_place}
use Rattle.wh_runs.proofs.shown.crashes_in_place.Goals as goal

pub returns : goal.returns
returns g c = λ command held start before mid after told opened rests writes d pair. in_place (form g.D.Disk) g.met.D.Disk.content_is_left g.met.D.Disk.counts_now (g.C.Commands.program.format.active start) start before mid after
    (IsReached g.C.Commands.program.format.meaning (expected g.C.Commands.program command held start)) told opened rests writes d pair
