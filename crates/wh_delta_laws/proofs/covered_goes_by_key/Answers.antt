use Rattle.wh_delta_laws.proofs.KeyValues.{covered_by_key}
use Rattle.wh_delta_laws.proofs.covered_goes_by_key.Goals as goal

pub returns : goal.returns
returns c = covered_by_key
