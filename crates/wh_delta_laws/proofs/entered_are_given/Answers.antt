use Rattle.wh_delta_laws.proofs.Deltas.{given_rows_same}
use Rattle.wh_delta_laws.proofs.entered_are_given.Goals as goal

pub returns : goal.returns
returns c = given_rows_same
