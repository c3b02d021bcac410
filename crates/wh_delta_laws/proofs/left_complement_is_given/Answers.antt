use Rattle.wh_delta_laws.proofs.KeyValues.{left_given}
use Rattle.wh_delta_laws.proofs.left_complement_is_given.Goals as goal

pub returns : goal.returns
returns c = left_given
