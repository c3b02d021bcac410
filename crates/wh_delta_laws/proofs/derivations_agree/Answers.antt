use Rattle.wh_delta_laws.proofs.Deltas.{derived_same}
use Rattle.wh_delta_laws.proofs.derivations_agree.Goals as goal

pub returns : goal.returns
returns c = derived_same
