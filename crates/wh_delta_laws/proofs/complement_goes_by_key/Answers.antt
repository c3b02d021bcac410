use Rattle.wh_delta_laws.proofs.KeyValues.{complement_by_key}
use Rattle.wh_delta_laws.proofs.complement_goes_by_key.Goals as goal

pub returns : goal.returns
returns c = complement_by_key
