use Rattle.wh_laws.proofs.Same.{stored_same}
use Rattle.wh_laws.proofs.stored_goes_by_sets.Goals as goal

pub returns : goal.returns
returns c = stored_same
