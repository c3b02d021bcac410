use Rattle.wh_fit.proofs.SpelledTables.{none_over}
use Rattle.wh_fit.proofs.under_is_counted.Goals as goal

pub returns : goal.returns
returns c = none_over
