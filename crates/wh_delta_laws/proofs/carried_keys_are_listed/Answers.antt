use Rattle.wh_delta_laws.proofs.KeyValues.{carried_listed}
use Rattle.wh_delta_laws.proofs.carried_keys_are_listed.Goals as goal

pub returns : goal.returns
returns c = carried_listed
