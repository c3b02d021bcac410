use Rattle.wh_delta_laws.proofs.Deltas.{given_rows_same}
use Rattle.wh_delta_laws.proofs.left_are_given.Goals as goal

pub returns : goal.returns
returns c = λ spec wf s t ss j l. given_rows_same spec wf t s ss j l
