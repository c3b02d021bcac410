use Rattle.wh_fit.proofs.Carried.{carried}
use Rattle.wh_fit.proofs.values_are_carried.Goals as goal

pub returns : goal.returns
returns c = carried
