use Rattle.wh_store.proofs.SpelledTables.{changed_spelled}
use Rattle.wh_fit.proofs.changed_are_spelled.Goals as goal

pub returns : goal.returns
returns c = changed_spelled
