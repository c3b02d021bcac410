use Rattle.wh_delta_laws.proofs.KeyValues.{entered_given}
use Rattle.wh_delta_laws.proofs.entered_complement_is_given.Goals as goal

pub returns : goal.returns
returns c = entered_given
