use Rattle.wh_delta_laws.proofs.KeyValues.{complement_carried}
use Rattle.wh_delta_laws.proofs.complement_keys_are_carried.Goals as goal

pub returns : goal.returns
returns c = complement_carried
