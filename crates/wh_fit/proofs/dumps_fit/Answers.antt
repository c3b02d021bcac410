use Rattle.wh_fit.proofs.DumpLemmas.{dumps_fit}
use Rattle.wh_fit.proofs.dumps_fit.Goals as goal

pub returns : goal.returns
returns c = dumps_fit
