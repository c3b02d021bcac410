use Rattle.wh_fit.proofs.Carried.{fitting_is_state}
use Rattle.wh_fit.proofs.fitting_is_state.Goals as goal

pub returns : goal.returns
returns c = fitting_is_state
