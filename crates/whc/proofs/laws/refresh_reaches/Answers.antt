use Rattle.whc.proofs.Refreshed.{reaches}
use Rattle.whc.proofs.laws.refresh_reaches.Goals as goal

pub returns : goal.returns
returns c = λ spec p held names active state at reached. reaches held spec names p active state at reached
