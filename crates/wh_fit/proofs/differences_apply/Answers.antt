use Rattle.wh_fit.proofs.DifferenceLemmas.{are_change}
use Rattle.wh_fit.proofs.differences_apply.Goals as goal

pub returns : goal.returns
returns c = are_change
