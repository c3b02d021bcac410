use Rattle.wh_fit.proofs.Carried.{complement_has}
use Rattle.wh_fit.proofs.complements_are_rows.Goals as goal

pub returns : goal.returns
returns c = complement_has
