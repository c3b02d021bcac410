use Rattle.wh_fit.proofs.Loads.{loads}
use Rattle.wh_fit.proofs.dumps_are_loaded.Goals as goal

pub returns : goal.returns
returns c = loads
