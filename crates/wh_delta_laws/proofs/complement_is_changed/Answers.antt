use Rattle.wh_delta_laws.proofs.KeyValues.{complement_changed}
use Rattle.wh_delta_laws.proofs.complement_is_changed.Goals as goal

pub returns : goal.returns
returns c = complement_changed
