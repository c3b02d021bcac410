use Rattle.wh_runs.proofs.Beside.{keeps_other}
use Rattle.wh_runs.proofs.laws.in_place_keeps_other.Goals as goal

pub returns : goal.returns
returns g c = λ command held start k is premise. keeps_other g.C.Commands.program g.C.Commands.sound command held start k is premise
