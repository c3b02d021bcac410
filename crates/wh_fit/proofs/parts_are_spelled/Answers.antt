use Rattle.wh_fit.proofs.SpelledTables.{part_spelled}
use Rattle.wh_fit.proofs.parts_are_spelled.Goals as goal

pub returns : goal.returns
returns c = part_spelled
